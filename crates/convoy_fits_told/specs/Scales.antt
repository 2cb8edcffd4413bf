-- How the times of a trace are told, and the skew of its clocks.
use Rattle.std.specs.Prelude.{ℕ, ◌*◌, ◌/◌, max, min, List, ◌∷◌, ◌++◌, codes, Option, Some, None, unwrap_or}
use Rattle.convoy_draft.specs.declared.duration.TimeUnit.{TimeUnit}
use Rattle.convoy_draft.specs.declared.duration.TimeUnit.TheVariants.{Seconds}
use Rattle.convoy_draft.specs.Durations.{unit_word}
use Rattle.convoy_times.specs.Measures.{told_ticks}
use Rattle.convoy_traces.specs.declared.clock.Clock.{Clock}
use Rattle.convoy_traces.specs.declared.fault.TheConstants.{LAST_TIME}
use Rattle.convoy_traces.specs.Traces.{tick_by}
use Rattle.convoy_fits_told.specs.declared.scale.Scale.{Scale}
use Rattle.convoy_fits_told.specs.declared.skew.Skew.{Skew}
use Rattle.convoy_fits_told.specs.declared.skew.Skew.TheVariants.{Ticks, Lasting}

-- The scale of a trace: a tick is as long as its clock says, and a fine tick one of so many parts of it. Where the clock has no unit, ticks are told as seconds would be, with another word.
abbrev pub scale_by : Clock → ℕ → Scale
scale_by clock factor = record {
  ticks = record { tick = clock.tick; unit = unwrap_or clock.unit Seconds };
  fine = record { tick = clock.tick / max 1 factor; unit = unwrap_or clock.unit Seconds };
  unit = clock.unit;
}

-- the word after a number
abbrev pub word_by : Option TimeUnit → List ℕ
word_by None = codes "ticks"
word_by (Some unit) = unit_word unit

-- so many ticks
unfoldable pub told_in_ticks : Scale → ℕ → List ℕ
told_in_ticks scale ticks = told_ticks scale.ticks ticks ++ 32 ∷ word_by scale.unit

-- so many fine ticks
unfoldable pub told_in_fine_ticks : Scale → ℕ → List ℕ
told_in_fine_ticks scale ticks = told_ticks scale.fine ticks ++ 32 ∷ word_by scale.unit

-- A skew in fine ticks, of which a tick has so many: those that go into it, and no more than a trace may tell. So what fits within that fits within the skew itself.
abbrev pub fine_skew : Clock → ℕ → Skew → ℕ
fine_skew clock factor (Ticks ticks) = min (ticks * factor) LAST_TIME
fine_skew clock factor (Lasting length) = min (length * factor / tick_by clock) LAST_TIME
