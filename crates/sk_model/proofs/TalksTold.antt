-- A record whose calls are its own, over one database: its replies are that database's, and what it wrote is what it put.
use Rattle.std.specs.Prelude.{◌≡◌, ℕ, Bool, true, false, ◌⊎◌, List, [], ◌∷◌, ◌++◌, Option, Some, None}
use Rattle.std.proofs.Common.{refl, sym, ap, subst, ◌∙◌, append-nil, inl, inr}
use Rattle.std.specs.List.{AllByRecursion}
use Rattle.sk_rows.specs.declared.table.Table.{Table}
use Rattle.sk_model.specs.declared.label.Label.{Label}
use Rattle.sk_model.specs.declared.engine.EngineName.{EngineName}
use Rattle.sk_model.specs.declared.engine.EngineName.TheVariants.{Mem, Store}
use Rattle.sk_model.specs.declared.reply.Reply.{Reply}
use Rattle.sk_model.specs.declared.reply.Reply.TheVariants as reply
use Rattle.sk_model.specs.declared.reply.ErrWord.TheVariants as err
use Rattle.sk_model.specs.declared.record.Said.{Said}
use Rattle.sk_model.specs.declared.record.Record.{Record}
use Rattle.sk_model.specs.declared.step.StepName.{StepName}
use Rattle.sk_model.specs.declared.step.StepName.TheVariants.{CloseMem, CloseStore, DrawMem, DrawStore, Check, StampMem, StampStore}
use Rattle.sk_model.specs.Database.{Tables}
use Rattle.sk_model.specs.Replies.{is_judged}
use Rattle.sk_model.specs.Spoken.{is_lost}
use Rattle.sk_model.specs.Records.{Told, written, is_committed}
use Rattle.sk_model.specs.Talks.{Talk, puts_in, TalkTold, wrote}
use Rattle.sk_model.specs.RecordTalks.{Numbered, steps_calls, left_by, leaves_of, lost_ending, refuses_commit, Outdone, Talks, owes}
use Rattle.sk_model.proofs.Bridging.{puts_append, told_parts, spoken_told, spoken_writes, judged_none}

-- ---- the steps of a commit and the ends of openings write nothing

steps_put_nothing : (tx : Label) (n : Numbered) (ss : List StepName) → puts_in (steps_calls tx n ss) ≡ []
steps_put_nothing tx n [] = refl
steps_put_nothing tx n (CloseMem ∷ ss) = steps_put_nothing tx n ss
steps_put_nothing tx n (CloseStore ∷ ss) = steps_put_nothing tx n ss
steps_put_nothing tx n (DrawMem ∷ ss) = steps_put_nothing tx n ss
steps_put_nothing tx n (DrawStore ∷ ss) = steps_put_nothing tx n ss
steps_put_nothing tx n (Check ∷ ss) = steps_put_nothing tx n ss
steps_put_nothing tx n (StampMem ∷ ss) = steps_put_nothing tx n ss
steps_put_nothing tx n (StampStore ∷ ss) = steps_put_nothing tx n ss

left_puts_nothing : (tx : Label) (e : EngineName) (owed : Bool) (drew : Option ℕ) → puts_in (left_by tx e owed drew) ≡ []
left_puts_nothing tx e false drew = refl
left_puts_nothing tx e true None = refl
left_puts_nothing tx e true (Some n) = refl

both_nothing : (xs ys : Talk) → puts_in xs ≡ [] → puts_in ys ≡ [] → puts_in (xs ++ ys) ≡ []
both_nothing xs ys h k = puts_append xs ys ∙ ap (λ ws. ws ++ puts_in ys) h ∙ k

pub tail_puts_nothing : (r : Record) (n : Numbered) (ss : List StepName) (wm ws : Bool) → puts_in (steps_calls r.label n ss ++ leaves_of r wm ws) ≡ []
tail_puts_nothing r n ss wm ws =
    both_nothing (steps_calls r.label n ss) (leaves_of r wm ws) (steps_put_nothing r.label n ss)
    (both_nothing (left_by r.label Mem (owes r.ending r.mem wm) r.drew_mem) (left_by r.label Store (owes r.ending r.store ws) r.drew_store)
    (left_puts_nothing r.label Mem (owes r.ending r.mem wm) r.drew_mem) (left_puts_nothing r.label Store (owes r.ending r.store ws) r.drew_store))

-- ---- the statements

refusal_is_not_judged : (r : Reply) → refuses_commit r ≡ true → is_judged r ≡ false
refusal_is_not_judged (reply.CheckFailed point mem store) e = refl
refusal_is_not_judged (reply.Spent engine) e = refl
refusal_is_not_judged (reply.Refused err.Memory) e = refl
refusal_is_not_judged _ e = absurd cc

module _ (catalog : List Table) (r : Record) (talk : Talk) (talks : Talks catalog r talk) (db : Tables) (told : TalkTold db talk) where
  spoken_is_told : TalkTold db talks.spoken
  spoken_is_told = (told_parts db talks.spoken (steps_calls r.label talks.numbered talks.taken ++ leaves_of r (wrote Mem talks.spoken) (wrote Store talks.spoken)) (subst (TalkTold db) talks.talk_is told)).0

  -- its replies are those of the database
  pub talks_told : Told catalog db r.said
  talks_told = by talks.said
    where
      by : (r.said ≡ talks.heard) ⊎ Outdone r talks.heard → Told catalog db r.said
      by (inl is) = subst (Told catalog db) (sym is) (spoken_told catalog r.label r.kind [] talks.heard talks.spoken db talks.asked spoken_is_told)
      by (inr out) = subst (Told catalog db) (sym out.said_is) (judged_none (is_judged out.refusal) _ (refusal_is_not_judged out.refusal out.refuses), tt)

  -- what it put is what its statements put
  puts_are : puts_in talk ≡ puts_in talks.spoken
  puts_are =
      ap puts_in talks.talk_is
      ∙ puts_append talks.spoken (steps_calls r.label talks.numbered talks.taken ++ leaves_of r (wrote Mem talks.spoken) (wrote Store talks.spoken))
      ∙ ap (λ ws. puts_in talks.spoken ++ ws) (tail_puts_nothing r talks.numbered talks.taken (wrote Mem talks.spoken) (wrote Store talks.spoken))
      ∙ append-nil (puts_in talks.spoken)

  no_loss : is_committed r.ending ≡ true → (said : List Said) → AllByRecursion (λ (s : Said). is_lost s.reply ≡ true → r.ending ≡ lost_ending s.reply) said → AllByRecursion (λ (s : Said). is_lost s.reply ≡ false) said
  no_loss committed [] h = tt
  no_loss committed (s ∷ said) h = (by (is_lost s.reply) refl, no_loss committed said h.1)
    where
      by : (b : Bool) → is_lost s.reply ≡ b → is_lost s.reply ≡ false
      by false e = e
      by true e = absurd (not_lost s.reply (ap is_committed (sym (h.0 e)) ∙ committed))
        where
          not_lost : (said : Reply) → is_committed (lost_ending said) ≡ true → ⊥
          not_lost (reply.Conflict by why) e = cc
          not_lost (reply.Recycled recycled) e = cc
          not_lost (reply.Old engine snapshot horizon) e = cc
          not_lost (reply.Refused err.Device) e = cc
          not_lost _ e = cc

  -- where it committed, its statements wrote what it put
  pub talks_wrote : is_committed r.ending ≡ true → written catalog db r.said ≡ puts_in talk
  talks_wrote committed = by talks.said
    where
      by : (r.said ≡ talks.heard) ⊎ Outdone r talks.heard → written catalog db r.said ≡ puts_in talk
      by (inl is) =
          ap (written catalog db) is
          ∙ spoken_writes catalog r.label r.kind [] talks.heard talks.spoken db talks.asked spoken_is_told (subst (AllByRecursion (λ (s : Said). is_lost s.reply ≡ false)) is (no_loss committed r.said talks.lost))
          ∙ sym puts_are
      by (inr out) = absurd (cc (out.failed, committed))
