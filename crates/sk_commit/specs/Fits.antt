-- Which answers are of the kind that a call asks for, and the engine call that is made with one.
use Rattle.std.specs.Prelude.{◌≡◌, ◌<◌, [], ◌∷◌}
use Rattle.sk_model.specs.declared.engine.EngineName.{EngineName}
use Rattle.sk_model.specs.declared.engine.EngineName.TheVariants.{Mem, Store}
use Rattle.sk_model.specs.declared.call.EngineCall.{EngineCall}
use Rattle.sk_model.specs.declared.call.EngineCall.TheVariants as call
use Rattle.sk_model.specs.declared.call.EngineFault.{EngineFault}
use Rattle.sk_model.specs.declared.call.EngineFault.TheVariants as fault
use Rattle.sk_model.specs.declared.call.EngineReply.{EngineReply}
use Rattle.sk_model.specs.declared.call.EngineReply.TheVariants as answer
use Rattle.sk_model.specs.Talks.{Talk, own}
use Rattle.sk_commit.specs.declared.asking.Wish.{Wish}
use Rattle.sk_commit.specs.declared.asking.Wish.TheVariants as wish
use Rattle.sk_commit.specs.declared.asking.RegistryCall.{RegistryCall}
use Rattle.sk_commit.specs.declared.asking.RegistryCall.TheVariants as reg
use Rattle.sk_commit.specs.declared.asking.RegistryReply.{RegistryReply}
use Rattle.sk_commit.specs.declared.asking.RegistryReply.TheVariants as told
use Rattle.sk_commit.specs.declared.asking.Got.{Got}
use Rattle.sk_commit.specs.declared.asking.Got.TheVariants as given

-- a call with its reply, as one that was made; a call that was refused for memory is left out
abbrev pub made_call : EngineName → EngineCall → EngineReply → Talk
made_call e asked (answer.Fault fault.NoMemory) = []
made_call e asked reply = own e asked reply ∷ []

-- the engine call of a wish and an answer
abbrev pub own_call : Wish → Got → Talk
own_call (wish.Mem asked) (given.Engine reply) = made_call Mem asked reply
own_call (wish.Store asked) (given.Engine reply) = made_call Store asked reply
own_call _ _ = []

-- a fault that ends a transaction: any but a read that has to wait
abbrev pub IsLoss : EngineFault → Type 0
IsLoss (fault.Busy by) = ⊥
IsLoss _ = Unit {0}

-- what an engine may reply to a call of a transaction
abbrev pub CallFits : EngineCall → EngineReply → Type 0
CallFits (call.Open tx s) answer.Done = Unit {0}
CallFits (call.Open tx s) (answer.Fault f) = IsLoss f
CallFits (call.Get tx t key) (answer.Found row) = Unit {0}
CallFits (call.Get tx t key) (answer.Fault f) = Unit {0}
CallFits (call.Scan tx t) (answer.Rows rows) = Unit {0}
CallFits (call.Scan tx t) (answer.Fault f) = Unit {0}
CallFits (call.Put tx t key row) answer.Done = Unit {0}
CallFits (call.Put tx t key row) (answer.Fault f) = IsLoss f
CallFits (call.Close tx) (answer.Number floor) = Unit {0}
CallFits (call.Close tx) (answer.Fault fault.NoMemory) = Unit {0}
CallFits (call.Stamp tx n) answer.Done = Unit {0}
CallFits (call.Void tx n) answer.Done = Unit {0}
CallFits (call.DropTx tx) answer.Done = Unit {0}
CallFits _ _ = ⊥

-- What a registry may answer: a refused selection names its anchor, and a number that is drawn is past the floor. A caller who has no room
-- for what a selection would add leaves it unmade.
abbrev pub RegFits : RegistryCall → RegistryReply → Type 0
RegFits reg.Begin (told.Number n) = Unit {0}
RegFits reg.StoreNow (told.Number n) = Unit {0}
RegFits (reg.Select a) (told.Selected s) = Unit {0}
RegFits (reg.Select a) (told.Recycled r) = r.a ≡ a
RegFits (reg.Select a) told.NoMemory = Unit {0}
RegFits (reg.DrawMem floor) (told.Number n) = floor < n
RegFits (reg.DrawMem floor) (told.NotDrawn f) = Unit {0}
RegFits (reg.DrawStore floor) (told.Number n) = floor < n
RegFits (reg.DrawStore floor) (told.NotDrawn f) = Unit {0}
RegFits (reg.Check ca cb) told.Done = Unit {0}
RegFits (reg.Check ca cb) (told.Passed p) = Unit {0}
RegFits _ _ = ⊥

-- an answer is of the kind that the wish asks for
abbrev pub WishFits : Wish → Got → Type 0
WishFits (wish.Mem asked) (given.Engine reply) = CallFits asked reply
WishFits (wish.Store asked) (given.Engine reply) = CallFits asked reply
WishFits (wish.Reg asked) (given.Reg reply) = RegFits asked reply
WishFits _ _ = ⊥
