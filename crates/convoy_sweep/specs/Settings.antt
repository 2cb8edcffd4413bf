-- How a setting is written: KEY=FROM..TO/STEP.
use Rattle.std.specs.Prelude.{◌≡◌, ℕ, List, ◌++◌, codes, Option, Some, option_map}
use Rattle.std.specs.Option.{option_or}
use Rattle.convoy_draft.specs.Durations.{duration_of}
use Rattle.convoy_lines.specs.Words.{number_of}
use Rattle.convoy_toml.specs.declared.written.WrittenTime.{WrittenTime}
use Rattle.convoy_toml.specs.declared.written.WrittenTime.TheVariants.{Lasting}
use Rattle.convoy_sweep.specs.declared.kinds.Setting.{Setting}
use Rattle.convoy_sweep.specs.declared.kinds.TheConstants.{LAST_TICK}
use Rattle.convoy_sweep.specs.Keys.{counted, key_name}

-- the time that a word tells: a number of ticks, or a duration as texts write it
abbrev pub written_time : List ℕ → Option WrittenTime
written_time word = option_or (option_map counted (number_of LAST_TICK word)) (option_map Lasting (duration_of word))

-- the form of a setting
abbrev pub setting_text : List ℕ → List ℕ → List ℕ → List ℕ → List ℕ
setting_text key from to step = key ++ codes "=" ++ from ++ codes ".." ++ to ++ codes "/" ++ step

-- The text writes the setting, with words for its times.
pub record IsSettingText (text : List ℕ) (setting : Setting) : Type 0 where
  pub from : List ℕ
  pub to : List ℕ
  pub step : List ℕ
  pub written : text ≡ setting_text (key_name setting.key) from to step
  pub first : written_time from ≡ Some setting.from
  pub last : written_time to ≡ Some setting.to
  pub between : written_time step ≡ Some setting.step
