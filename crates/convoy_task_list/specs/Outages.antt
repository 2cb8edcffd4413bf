-- Which outages are asked for by a time as it is written, beside a text or in it.
use Rattle.std.specs.Prelude.{nat_abs}
use Rattle.convoy_outages.specs.declared.outage.Outage.{Outage}
use Rattle.convoy_outages.specs.declared.outage.Outage.TheVariants as outages
use Rattle.convoy_toml.specs.declared.written.WrittenTime.{WrittenTime}
use Rattle.convoy_toml.specs.declared.written.WrittenTime.TheVariants.{Count, Lasting}

-- the outages that last for that time in all: the sign of a number of ticks counts for nothing
abbrev pub outage_by : WrittenTime → Outage
outage_by (Count ticks) = outages.Ticks (nat_abs ticks)
outage_by (Lasting length) = outages.Lasting length
