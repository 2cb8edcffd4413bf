use Rattle.convoy_toml.proofs.Divisors.{is_common_divisor}
use Rattle.convoy_toml.proofs.text_laws.common_divisors_are_greatest.Goals as goal

pub returns : goal.returns
returns c = is_common_divisor
