pub mod Cases
pub mod Orders
pub mod KeptOrders
pub mod Marks
