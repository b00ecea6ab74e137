-- `shift_of` meets its contract. Assumes nothing.
use Rattle.aiff_rate.proofs.laws.Bytes.{shift_51, shift_50, shift_49, shift_48, shift_47, shift_46}
use borrow.Author.Rules.{rules}
use Rattle.aiff_rate.proofs.rate.shift_of.Goals as goal

pub returns-then-rate-lt8192 : goal.returns-then-rate-lt8192
returns-then-rate-lt8192 c = shift_51 c.args.rate (search rules)

pub returns-then-rate-lt16384 : goal.returns-then-rate-lt16384
returns-then-rate-lt16384 c = shift_50 c.args.rate (search rules) (search rules)

pub returns-then-rate-lt32768 : goal.returns-then-rate-lt32768
returns-then-rate-lt32768 c = shift_49 c.args.rate (search rules) (search rules) (search rules)

pub returns-then-rate-lt65536 : goal.returns-then-rate-lt65536
returns-then-rate-lt65536 c = shift_48 c.args.rate (search rules) (search rules) (search rules)

pub returns-then-rate-lt131072 : goal.returns-then-rate-lt131072
returns-then-rate-lt131072 c = shift_47 c.args.rate (search rules) (search rules) (search rules)

pub returns : goal.returns
returns c = shift_46 c.args.rate (search rules) (search rules)
