-- `output_length` meets its contract: the three factors are small, so the product fits. Assumes nothing.
use borrow.Author.Rules.{rules}
use Rattle.scene_reader.proofs.laws.Length.{product_fits, product_fits_all}
use Rattle.scene_reader.proofs.answer.output_length.Goals as goal

pub overflow_mul-result : goal.overflow_mul-result
overflow_mul-result c = search (product_fits, rules)

pub overflow_mul-result-2 : goal.overflow_mul-result-2
overflow_mul-result-2 c = search (product_fits_all, rules)
