-- What the sessions of a run have in common: the journals of both engines and the registry, and how these answer a call.
use Rattle.std.specs.Prelude.{◌≡◌, ◌≤◌, List, ◌++◌, Ok, Err, true}
use Rattle.sk_model.specs.declared.engine.EngineName.{EngineName}
use Rattle.sk_model.specs.declared.call.Entry.{Entry}
use Rattle.sk_model.specs.Engine.{EngineTable}
use Rattle.sk_model.specs.Legal.{Legal}
use Rattle.sk_model.specs.Talks.{calls_in}
use Rattle.sk_weave.specs.Registry.{Regs, IsSound, selected, after_selection, drawn, after_draw_mem, after_draw_store, passes, checked, after_check}
use Rattle.sk_commit.specs.declared.asking.RegistryCall.{RegistryCall}
use Rattle.sk_commit.specs.declared.asking.RegistryCall.TheVariants as reg
use Rattle.sk_commit.specs.declared.asking.RegistryReply.{RegistryReply}
use Rattle.sk_commit.specs.declared.asking.RegistryReply.TheVariants as told
use Rattle.sk_commit.specs.declared.asking.Wish.{Wish}
use Rattle.sk_commit.specs.declared.asking.Wish.TheVariants as wish
use Rattle.sk_commit.specs.declared.asking.Got.{Got}
use Rattle.sk_commit.specs.declared.asking.Got.TheVariants as given
use Rattle.sk_commit.specs.Fits.{own_call}

-- the tables with which the engines began, their journals so far, and the state of the registry
pub record Common : Type 0 where
  pub first : EngineName → EngineTable
  pub journals : EngineName → List Entry
  pub regs : Regs

-- each reply of an engine was the right one, and the registry is in a sound state
pub record IsCommon (c : Common) : Type 0 where
  pub legal : (name : EngineName) → Legal (c.first name) (c.journals name)
  pub sound : IsSound c.regs

-- what the registry answers in this state, and what that leaves of it; where there is no room for what a selection would add it is left unmade
abbrev pub RegAnswers : Regs → RegistryCall → RegistryReply → Regs → Type 0
RegAnswers r reg.Begin (told.Number n) s = (n ≡ r.mem) × (s ≡ r)
RegAnswers r reg.StoreNow (told.Number n) s = (n ≡ r.store) × (s ≡ r)
RegAnswers r (reg.Select a) (told.Selected found) s = (a ≤ r.mem) × (selected r a r.store ≡ Ok found) × (s ≡ after_selection r a r.store)
RegAnswers r (reg.Select a) (told.Recycled e) s = (selected r a r.store ≡ Err e) × (s ≡ r)
RegAnswers r (reg.Select a) told.NoMemory s = s ≡ r
RegAnswers r (reg.DrawMem floor) (told.Number n) s = (drawn r.mem floor ≡ Ok n) × (s ≡ after_draw_mem r floor)
RegAnswers r (reg.DrawMem floor) (told.NotDrawn f) s = (drawn r.mem floor ≡ Err f) × (s ≡ r)
RegAnswers r (reg.DrawStore floor) (told.Number n) s = (drawn r.store floor ≡ Ok n) × (s ≡ after_draw_store r floor)
RegAnswers r (reg.DrawStore floor) (told.NotDrawn f) s = (drawn r.store floor ≡ Err f) × (s ≡ r)
RegAnswers r (reg.Check ca cb) told.Done s = (ca ≤ r.mem) × (cb ≤ r.store) × (passes r ca cb ≡ true) × (s ≡ after_check r ca cb)
RegAnswers r (reg.Check ca cb) (told.Passed p) s = (checked r ca cb ≡ Err p) × (s ≡ r)
RegAnswers r _ _ s = ⊥

-- a call of an engine leaves the registry as it is
abbrev pub RegsAnswer : Regs → Wish → Got → Regs → Type 0
RegsAnswer r (wish.Reg asked) (given.Reg reply) s = RegAnswers r asked reply s
RegsAnswer r _ _ s = s ≡ r

-- The call was answered so, which has made this of what is common: a call of an engine stands behind the others in its journal, with its
-- reply, unless it was refused for memory; and a call of the registry has its rule.
pub record Answered (old : Common) (asked : Wish) (got : Got) (new : Common) : Type 0 where
  pub first : new.first ≡ old.first
  pub journals : (name : EngineName) → new.journals name ≡ old.journals name ++ calls_in name (own_call asked got)
  pub regs : RegsAnswer old.regs asked got new.regs
  pub common : IsCommon new
