-- What the replies of a record tell, one after another.
use Rattle.std.proofs.Common.{◌≡◌, false, refl}
use Rattle.sk_model.specs.declared.reply.Reply.{Reply}
use Rattle.sk_model.specs.declared.reply.Reply.TheVariants as reply
use Rattle.sk_model.specs.Replies.{is_count, is_judged}

-- a count is a reply that the database gives
pub count_judged : (r : Reply) → is_judged r ≡ false → is_count r ≡ false
count_judged (reply.Began label) e = refl
count_judged (reply.Count n) e = absurd cc
count_judged (reply.Rows rows) e = refl
count_judged reply.Committed e = refl
count_judged reply.RolledBack e = refl
count_judged (reply.Step step n) e = refl
count_judged (reply.CheckFailed point mem store) e = refl
count_judged (reply.Spent engine) e = refl
count_judged (reply.Conflict by why) e = refl
count_judged (reply.Busy by) e = refl
count_judged (reply.Recycled recycled) e = refl
count_judged (reply.Old engine snapshot horizon) e = refl
count_judged (reply.Refused word) e = refl
