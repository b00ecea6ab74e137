-- `digits_at` meets its contract. Assumes nothing.
use Rattle.aiff_rate.proofs.laws.Bytes.{two_words}
use Rattle.aiff_rate.proofs.rate.digits_at.Goals as goal

pub returns : goal.returns
returns c = cc (two_words c.args.bytes.now c.args.at)
