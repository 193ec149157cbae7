-- The entries that a journal keeps, where Horizons that follow one another are kept as one number.
use Rattle.std.specs.Prelude.{◌≡◌, ◌≤◌, ◌+◌, ℕ, List, [], ◌∷◌, ◌++◌, Option, Some, None, Bool, true, false, cond, ◌==◌, ◌||◌, ◌&&◌, ◌-◌, ◌^◌, not, length, nat_lt, replicate}
use Rattle.std.specs.List.{flat_map, AllByRecursion}
use Rattle.sk_model.specs.declared.call.EngineCall.{EngineCall}
use Rattle.sk_model.specs.declared.call.EngineCall.TheVariants as call
use Rattle.sk_model.specs.declared.call.EngineReply.{EngineReply}
use Rattle.sk_model.specs.declared.call.EngineReply.TheVariants.{Number}
use Rattle.sk_model.specs.declared.call.Entry.{Entry}
use Rattle.sk_model.specs.declared.journal.HorizonRun.{HorizonRun}
use Rattle.sk_model.specs.declared.journal.JournalPart.{JournalPart}
use Rattle.sk_model.specs.EngineReplies.{last_in}

abbrev pub is_horizon : EngineCall → Bool
is_horizon call.Horizon = true
is_horizon _ = false

-- a Horizon that was answered n
abbrev pub horizon_entry : ℕ → Entry
horizon_entry n = record { call = call.Horizon; reply = Number n }

abbrev pub run_entries : HorizonRun → List Entry
run_entries run = replicate run.count (horizon_entry run.answer)

abbrev pub part_entries : JournalPart → List Entry
part_entries part = run_entries part.horizons ++ part.entry ∷ []

-- the entries of these parts, and the Horizons behind them
abbrev pub entries_in : List JournalPart → HorizonRun → List Entry
entries_in parts run = flat_map part_entries parts ++ run_entries run

-- how many entries a journal has at most
abbrev pub most_entries : ℕ
most_entries = 2 ^ 64 - 1

-- how many of them are not Horizons at most, those counted for which there is room
abbrev pub most_others : ℕ
most_others = 2 ^ 62

abbrev pub answers : ℕ → EngineReply → Bool
answers n (Number m) = m == n
answers n _ = false

-- whether a Horizon that was answered n may stand behind this entry: right behind another Horizon it has that one's answer
abbrev pub goes_behind : ℕ → Option Entry → Bool
goes_behind n None = true
goes_behind n (Some j) = not (is_horizon j.call) || answers n j.reply

-- the entry behind the others, unless there are as many as there may be
abbrev pub entered : List Entry → Entry → List Entry
entered js j = cond (nat_lt (length js) most_entries) (js ++ j ∷ []) js

-- whether a Horizon that was answered n may be entered
abbrev pub takes_horizon : List Entry → ℕ → Bool
takes_horizon js n = nat_lt (length js) most_entries && goes_behind n (last_in None js)

abbrev pub with_horizon : List Entry → ℕ → List Entry
with_horizon js n = cond (takes_horizon js n) (js ++ horizon_entry n ∷ []) js

-- what contracts see of a journal that grows: its entries, and for how many more there is room
pub record Written : Type 0 where
  pub entries : List Entry
  pub room : ℕ

-- as many entries as are counted, within the room of the vector that holds them, and only Horizons in runs
pub record IsWritten (parts : List JournalPart) (last : HorizonRun) (len room capacity : ℕ) : Type 0 where
  pub counted : len ≡ length (entries_in parts last)
  pub held : length parts + room ≤ capacity
  pub few : length parts + room ≤ most_others
  pub others : AllByRecursion (λ (p : JournalPart). is_horizon p.entry.call ≡ false) parts
