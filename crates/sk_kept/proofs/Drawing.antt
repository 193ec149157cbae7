-- A transaction draws one number of each engine.
use Rattle.std.specs.Prelude.{◌≡◌, ℕ, Option, None, true, false, ◌⊎◌}
use Rattle.std.proofs.Common.{refl, sym, ◌∙◌, inl, inr, ⊎_elim}
use Rattle.std.proofs.lemmas.Bool.{cases_Bool}
use Rattle.sk_model.specs.declared.engine.EngineName.{EngineName}
use Rattle.sk_model.specs.declared.engine.EngineName.TheVariants.{Mem, Store}
use Rattle.sk_model.specs.declared.call.EngineCall.TheVariants as call
use Rattle.sk_model.specs.declared.call.EngineReply.TheVariants as answer
use Rattle.sk_commit.specs.declared.asking.RegistryCall.TheVariants as reg
use Rattle.sk_commit.specs.declared.asking.RegistryReply.TheVariants as told
use Rattle.sk_commit.specs.declared.asking.Wish.{Wish}
use Rattle.sk_commit.specs.declared.asking.Wish.TheVariants as wish
use Rattle.sk_commit.specs.declared.asking.Got.{Got}
use Rattle.sk_commit.specs.declared.asking.Got.TheVariants as given
use Rattle.sk_commit.specs.Fits.{WishFits}
use Rattle.sk_session.specs.Facts.{Facts, FitsFacts, facts_after}
use Rattle.sk_kept.specs.Held.{Trace, trace_after, Drew}
use Rattle.sk_linked.proofs.Members.{some_clash}

-- its number stays, or it had none
abbrev Once : Option ℕ → Option ℕ → Type 0
Once old new = (new ≡ old) ⊎ (old ≡ None)

once : (f : Facts) (asked : Wish) (got : Got) → FitsFacts f asked → WishFits asked got → (let g : Facts = facts_after asked got f in Once f.drew_mem g.drew_mem × Once f.drew_store g.drew_store)
once f (wish.Mem (call.Open tx n)) (given.Engine answer.Done) asks fits = (inl refl, inl refl)
once f (wish.Mem (call.Open tx n)) (given.Engine (answer.Found x)) asks fits = (inl refl, inl refl)
once f (wish.Mem (call.Open tx n)) (given.Engine (answer.Rows x)) asks fits = (inl refl, inl refl)
once f (wish.Mem (call.Open tx n)) (given.Engine (answer.Number x)) asks fits = (inl refl, inl refl)
once f (wish.Mem (call.Open tx n)) (given.Engine (answer.Commits x)) asks fits = (inl refl, inl refl)
once f (wish.Mem (call.Open tx n)) (given.Engine (answer.Fault x)) asks fits = (inl refl, inl refl)
once f (wish.Mem (call.Open tx n)) (given.Reg q) asks fits = absurd fits
once f (wish.Mem (call.Get tx t key)) got asks fits = (inl refl, inl refl)
once f (wish.Mem (call.Scan tx t)) got asks fits = (inl refl, inl refl)
once f (wish.Mem (call.Put tx t key row)) got asks fits = (inl refl, inl refl)
once f (wish.Mem (call.Close tx)) got asks fits = (inl refl, inl refl)
once f (wish.Mem (call.Stamp tx n)) got asks fits = (inl refl, inl refl)
once f (wish.Mem (call.Void tx n)) got asks fits = (inl refl, inl refl)
once f (wish.Mem (call.DropTx tx)) got asks fits = (inl refl, inl refl)
once f (wish.Mem call.Horizon) got asks fits = (inl refl, inl refl)
once f (wish.Mem (call.Records from to)) got asks fits = (inl refl, inl refl)
once f (wish.Mem (call.Purge upto)) got asks fits = (inl refl, inl refl)
once f (wish.Store (call.Open tx n)) (given.Engine answer.Done) asks fits = (inl refl, inl refl)
once f (wish.Store (call.Open tx n)) (given.Engine (answer.Found x)) asks fits = (inl refl, inl refl)
once f (wish.Store (call.Open tx n)) (given.Engine (answer.Rows x)) asks fits = (inl refl, inl refl)
once f (wish.Store (call.Open tx n)) (given.Engine (answer.Number x)) asks fits = (inl refl, inl refl)
once f (wish.Store (call.Open tx n)) (given.Engine (answer.Commits x)) asks fits = (inl refl, inl refl)
once f (wish.Store (call.Open tx n)) (given.Engine (answer.Fault x)) asks fits = (inl refl, inl refl)
once f (wish.Store (call.Open tx n)) (given.Reg q) asks fits = absurd fits
once f (wish.Store (call.Get tx t key)) got asks fits = (inl refl, inl refl)
once f (wish.Store (call.Scan tx t)) got asks fits = (inl refl, inl refl)
once f (wish.Store (call.Put tx t key row)) got asks fits = (inl refl, inl refl)
once f (wish.Store (call.Close tx)) got asks fits = (inl refl, inl refl)
once f (wish.Store (call.Stamp tx n)) got asks fits = (inl refl, inl refl)
once f (wish.Store (call.Void tx n)) got asks fits = (inl refl, inl refl)
once f (wish.Store (call.DropTx tx)) got asks fits = (inl refl, inl refl)
once f (wish.Store call.Horizon) got asks fits = (inl refl, inl refl)
once f (wish.Store (call.Records from to)) got asks fits = (inl refl, inl refl)
once f (wish.Store (call.Purge upto)) got asks fits = (inl refl, inl refl)
once f (wish.Reg reg.Begin) (given.Engine q) asks fits = absurd fits
once f (wish.Reg reg.Begin) (given.Reg (told.Number n)) asks fits = (inl refl, inl refl)
once f (wish.Reg reg.Begin) (given.Reg (told.Selected found)) asks fits = (inl refl, inl refl)
once f (wish.Reg reg.Begin) (given.Reg (told.Recycled e)) asks fits = (inl refl, inl refl)
once f (wish.Reg reg.Begin) (given.Reg (told.NotDrawn d)) asks fits = (inl refl, inl refl)
once f (wish.Reg reg.Begin) (given.Reg told.Done) asks fits = (inl refl, inl refl)
once f (wish.Reg reg.Begin) (given.Reg (told.Passed p)) asks fits = (inl refl, inl refl)
once f (wish.Reg reg.Begin) (given.Reg told.NoMemory) asks fits = (inl refl, inl refl)
once f (wish.Reg reg.StoreNow) (given.Engine q) asks fits = absurd fits
once f (wish.Reg reg.StoreNow) (given.Reg (told.Number n)) asks fits = (inl refl, inl refl)
once f (wish.Reg reg.StoreNow) (given.Reg (told.Selected found)) asks fits = (inl refl, inl refl)
once f (wish.Reg reg.StoreNow) (given.Reg (told.Recycled e)) asks fits = (inl refl, inl refl)
once f (wish.Reg reg.StoreNow) (given.Reg (told.NotDrawn d)) asks fits = (inl refl, inl refl)
once f (wish.Reg reg.StoreNow) (given.Reg told.Done) asks fits = (inl refl, inl refl)
once f (wish.Reg reg.StoreNow) (given.Reg (told.Passed p)) asks fits = (inl refl, inl refl)
once f (wish.Reg reg.StoreNow) (given.Reg told.NoMemory) asks fits = (inl refl, inl refl)
once f (wish.Reg (reg.Select a)) (given.Engine q) asks fits = absurd fits
once f (wish.Reg (reg.Select a)) (given.Reg (told.Number n)) asks fits = (inl refl, inl refl)
once f (wish.Reg (reg.Select a)) (given.Reg (told.Selected found)) asks fits = (inl (⊎_elim (λ (t : found.made ≡ true). rw t refl) (λ (t : found.made ≡ false). rw t refl) (cases_Bool found.made)), inl (⊎_elim (λ (t : found.made ≡ true). rw t refl) (λ (t : found.made ≡ false). rw t refl) (cases_Bool found.made)))
once f (wish.Reg (reg.Select a)) (given.Reg (told.Recycled e)) asks fits = (inl refl, inl refl)
once f (wish.Reg (reg.Select a)) (given.Reg (told.NotDrawn d)) asks fits = (inl refl, inl refl)
once f (wish.Reg (reg.Select a)) (given.Reg told.Done) asks fits = (inl refl, inl refl)
once f (wish.Reg (reg.Select a)) (given.Reg (told.Passed p)) asks fits = (inl refl, inl refl)
once f (wish.Reg (reg.Select a)) (given.Reg told.NoMemory) asks fits = (inl refl, inl refl)
once f (wish.Reg (reg.DrawMem floor)) (given.Engine q) asks fits = absurd fits
once f (wish.Reg (reg.DrawMem floor)) (given.Reg (told.Number n)) asks fits = (inr asks.0, inl refl)
once f (wish.Reg (reg.DrawMem floor)) (given.Reg (told.Selected found)) asks fits = (inl refl, inl refl)
once f (wish.Reg (reg.DrawMem floor)) (given.Reg (told.Recycled e)) asks fits = (inl refl, inl refl)
once f (wish.Reg (reg.DrawMem floor)) (given.Reg (told.NotDrawn d)) asks fits = (inl refl, inl refl)
once f (wish.Reg (reg.DrawMem floor)) (given.Reg told.Done) asks fits = (inl refl, inl refl)
once f (wish.Reg (reg.DrawMem floor)) (given.Reg (told.Passed p)) asks fits = (inl refl, inl refl)
once f (wish.Reg (reg.DrawMem floor)) (given.Reg told.NoMemory) asks fits = (inl refl, inl refl)
once f (wish.Reg (reg.DrawStore floor)) (given.Engine q) asks fits = absurd fits
once f (wish.Reg (reg.DrawStore floor)) (given.Reg (told.Number n)) asks fits = (inl refl, inr asks)
once f (wish.Reg (reg.DrawStore floor)) (given.Reg (told.Selected found)) asks fits = (inl refl, inl refl)
once f (wish.Reg (reg.DrawStore floor)) (given.Reg (told.Recycled e)) asks fits = (inl refl, inl refl)
once f (wish.Reg (reg.DrawStore floor)) (given.Reg (told.NotDrawn d)) asks fits = (inl refl, inl refl)
once f (wish.Reg (reg.DrawStore floor)) (given.Reg told.Done) asks fits = (inl refl, inl refl)
once f (wish.Reg (reg.DrawStore floor)) (given.Reg (told.Passed p)) asks fits = (inl refl, inl refl)
once f (wish.Reg (reg.DrawStore floor)) (given.Reg told.NoMemory) asks fits = (inl refl, inl refl)
once f (wish.Reg (reg.Check ca cb)) (given.Engine q) asks fits = absurd fits
once f (wish.Reg (reg.Check ca cb)) (given.Reg (told.Number n)) asks fits = (inl refl, inl refl)
once f (wish.Reg (reg.Check ca cb)) (given.Reg (told.Selected found)) asks fits = (inl refl, inl refl)
once f (wish.Reg (reg.Check ca cb)) (given.Reg (told.Recycled e)) asks fits = (inl refl, inl refl)
once f (wish.Reg (reg.Check ca cb)) (given.Reg (told.NotDrawn d)) asks fits = (inl refl, inl refl)
once f (wish.Reg (reg.Check ca cb)) (given.Reg told.Done) asks fits = (inl refl, inl refl)
once f (wish.Reg (reg.Check ca cb)) (given.Reg (told.Passed p)) asks fits = (inl refl, inl refl)
once f (wish.Reg (reg.Check ca cb)) (given.Reg told.NoMemory) asks fits = (inl refl, inl refl)

-- so a number that was drawn stays drawn
pub drew_stays : (name : EngineName) (n : ℕ) (t : Trace) (asked : Wish) (got : Got) → FitsFacts t.facts asked → WishFits asked got → Drew name t n → Drew name (trace_after asked got t) n
drew_stays Mem n t asked got asks fits e = ⊎_elim (λ q. q ∙ e) (λ q. some_clash (sym e ∙ q)) (once t.facts asked got asks fits).0
drew_stays Store n t asked got asks fits e = ⊎_elim (λ q. q ∙ e) (λ q. some_clash (sym e ∙ q)) (once t.facts asked got asks fits).1
