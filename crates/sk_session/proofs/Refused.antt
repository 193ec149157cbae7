-- What the table of refusals refuses is refused so.
use Rattle.std.specs.Prelude.{◌≡◌, ℕ, List, Option, Some, None, Bool, true, false, if◌then◌else◌, Ok, Err}
use Rattle.std.proofs.Common.{ap, subst, ◌∙◌, inl, inr}
use Rattle.sk_rows.specs.declared.table.Table.{Table}
use Rattle.sk_rows.specs.declared.statement.Statement.{Statement}
use Rattle.sk_rows.specs.declared.statement.Statement.TheVariants as statement
use Rattle.sk_model.specs.declared.engine.EngineName.{EngineName}
use Rattle.sk_model.specs.declared.record.Record.{Record}
use Rattle.sk_model.specs.declared.record.TxKind.{TxKind}
use Rattle.sk_model.specs.declared.reply.ErrWord.{ErrWord}
use Rattle.sk_model.specs.declared.reply.ErrWord.TheVariants as err
use Rattle.sk_model.specs.Names.{columns_at}
use Rattle.sk_model.specs.Replies.{refusal_in}
use Rattle.sk_model.specs.Asking.{keeper, may_use, table_named}
use Rattle.sk_commit.specs.declared.committing.Committing.{Committing}
use Rattle.sk_session.specs.declared.turn.Turn.{Turn}
use Rattle.sk_session.specs.declared.live.Live.{Live}
use Rattle.sk_session.specs.declared.live.At.{At}
use Rattle.sk_session.specs.declared.live.At.TheVariants as at
use Rattle.sk_session.specs.declared.live.Moved.{Moved}
use Rattle.sk_session.specs.declared.session.Session.{Session}
use Rattle.sk_session.specs.Moving.{Either, says, starve, refuses, judged_at, judged_in, judged_outside_at, judged_outside_in, judged_outside, inside_by, InsideTable, StartsInside, OutsideTable, StartsOutside, StartsAt, start_stepping, start_ended}
use Rattle.sk_session.specs.Refusals.{words_then, table_refusal, outside_refusal, inside_refusal, stepping_refusal, ended_refusal, RefusedInside, RefusedIn, RefusesByTable}
use Rattle.sk_session.specs.Starting.{Starts, moved_to}

-- ---- inside

use_judged : (e : EngineName) (b : Bool) (word : ErrWord) → (if b then None else Some err.Engine) ≡ Some word → (if b then Ok e else Err err.Engine) ≡ Err word
use_judged e true word is = absurd cc
use_judged e false word is = cc

words_judged : (catalog : List Table) (kind : TxKind) (t : ℕ) (w : Option ErrWord) (word : ErrWord) → words_then catalog (Some kind) t w ≡ Some word → judged_at catalog kind t w ≡ Err word
words_judged catalog kind t (Some x) word is = cc
words_judged catalog kind t None word is = use_judged (keeper catalog t) (may_use kind (keeper catalog t)) word is

table_judged : (catalog : List Table) (kind : TxKind) (s : Statement) (o : Option ℕ) (word : ErrWord) → table_refusal catalog (Some kind) s o ≡ Some word → judged_in catalog kind s o ≡ Err word
table_judged catalog kind s None word is = cc
table_judged catalog kind s (Some t) word is = words_judged catalog kind t (refusal_in (columns_at catalog t) s) word is

in_table : (catalog : List Table) (old : List Record) (live : Live) (s : Statement) (moved : Moved) (word : ErrWord) → InsideTable catalog old live s moved → table_refusal catalog (Some live.kind) s (table_named catalog s) ≡ Some word → RefusedInside old live s word moved
in_table catalog old live s moved word (inl starved) is = inl starved
in_table catalog old live s moved word (inr goes) is =
    inr (subst (λ j. Either (inside_by catalog old (says live s) j) (starve old (says live s)) moved) (table_judged catalog live.kind s (table_named catalog s) word is) goes)

at_inside : (catalog : List Table) (old : List Record) (live : Live) (s : Option Statement) (moved : Moved) (word : ErrWord) → StartsInside catalog old live s moved → inside_refusal catalog live.kind s ≡ Some word → RefusedIn old live s word moved
at_inside catalog old live None moved word goes is = absurd cc
at_inside catalog old live (Some statement.Commit) moved word goes is = absurd cc
at_inside catalog old live (Some statement.Rollback) moved word goes is = absurd cc
at_inside catalog old live (Some (statement.Begin begun)) moved word goes is = let same : err.InTransaction ≡ word = cc in goes ∙ ap (λ w. refuses old (at.Inside live) w) same
at_inside catalog old live (Some (statement.Insert table values)) moved word goes is = in_table catalog old live (statement.Insert table values) moved word goes is
at_inside catalog old live (Some (statement.Select table names e)) moved word goes is = in_table catalog old live (statement.Select table names e) moved word goes is
at_inside catalog old live (Some (statement.Update table sets e)) moved word goes is = in_table catalog old live (statement.Update table sets e) moved word goes is
at_inside catalog old live (Some (statement.Delete table e)) moved word goes is = in_table catalog old live (statement.Delete table e) moved word goes is

-- ---- outside

outside_words : (catalog : List Table) (t : ℕ) (w : Option ErrWord) (word : ErrWord) → words_then catalog None t w ≡ Some word → judged_outside_at catalog t w ≡ Err word
outside_words catalog t (Some x) word is = cc
outside_words catalog t None word is = absurd cc

outside_judged : (catalog : List Table) (s : Statement) (o : Option ℕ) (word : ErrWord) → table_refusal catalog None s o ≡ Some word → judged_outside_in catalog s o ≡ Err word
outside_judged catalog s None word is = cc
outside_judged catalog s (Some t) word is = outside_words catalog t (refusal_in (columns_at catalog t) s) word is

out_table : (catalog : List Table) (number : ℕ) (old : List Record) (s : Statement) (moved : Moved) (word : ErrWord) → OutsideTable number old s (judged_outside catalog s) moved → table_refusal catalog None s (table_named catalog s) ≡ Some word → moved ≡ refuses old at.Outside word
out_table catalog number old s moved word goes is = subst (λ j. OutsideTable number old s j moved) (outside_judged catalog s (table_named catalog s) word is) goes

same_word : (old : List Record) (there : At) (first word : ErrWord) (moved : Moved) → moved ≡ refuses old there first → Some first ≡ Some word → moved ≡ refuses old there word
same_word old there first word moved goes is = let same : first ≡ word = cc in goes ∙ ap (λ w. refuses old there w) same

at_outside : (catalog : List Table) (number : ℕ) (old : List Record) (s : Option Statement) (moved : Moved) (word : ErrWord) → StartsOutside catalog number old s moved → outside_refusal catalog s ≡ Some word → moved ≡ refuses old at.Outside word
at_outside catalog number old None moved word goes is = same_word old at.Outside err.NoTransaction word moved goes is
at_outside catalog number old (Some statement.Commit) moved word goes is = same_word old at.Outside err.NoTransaction word moved goes is
at_outside catalog number old (Some statement.Rollback) moved word goes is = same_word old at.Outside err.NoTransaction word moved goes is
at_outside catalog number old (Some (statement.Begin begun)) moved word goes is = absurd cc
at_outside catalog number old (Some (statement.Insert table values)) moved word goes is = out_table catalog number old (statement.Insert table values) moved word goes is
at_outside catalog number old (Some (statement.Select table names e)) moved word goes is = out_table catalog number old (statement.Select table names e) moved word goes is
at_outside catalog number old (Some (statement.Update table sets e)) moved word goes is = out_table catalog number old (statement.Update table sets e) moved word goes is
at_outside catalog number old (Some (statement.Delete table e)) moved word goes is = out_table catalog number old (statement.Delete table e) moved word goes is

-- ---- between two steps, and behind a loss

at_stepping : (old : List Record) (live : Live) (c : Committing) (s : Option Statement) (moved : Moved) (word : ErrWord) → moved ≡ start_stepping old live c s → stepping_refusal s ≡ Some word → moved ≡ refuses old (at.Stepping live c) word
at_stepping old live c None moved word goes is = absurd cc
at_stepping old live c (Some statement.Commit) moved word goes is = absurd cc
at_stepping old live c _ moved word goes is = same_word old (at.Stepping live c) err.Committing word moved goes is

at_ended : (old : List Record) (s : Option Statement) (moved : Moved) (word : ErrWord) → moved ≡ start_ended old s → ended_refusal s ≡ Some word → moved ≡ refuses old at.Ended word
at_ended old (Some statement.Commit) moved word goes is = absurd cc
at_ended old (Some statement.Rollback) moved word goes is = absurd cc
at_ended old _ moved word goes is = same_word old at.Ended err.Ended word moved goes is

by_table : (catalog : List Table) (number : ℕ) (old : List Record) (there : At) (s : Option Statement) (moved : Moved) → StartsAt catalog number old there s moved → RefusesByTable catalog old there s moved
by_table catalog number old at.Outside s moved goes = λ word is. at_outside catalog number old s moved word goes is
by_table catalog number old (at.Inside live) s moved goes = λ word is. at_inside catalog old live s moved word goes is
by_table catalog number old (at.Stepping live c) s moved goes = λ word is. at_stepping old live c s moved word goes is
by_table catalog number old at.Ended s moved goes = λ word is. at_ended old s moved word goes is
by_table catalog number old (at.Asking live doing) s moved goes = λ word is. same_word old (at.Asking live doing) err.Committing word moved goes is

pub refused_by_table : (catalog : List Table) (old : Session) (s : Option Statement) (new : Session) (turn : Turn) → Starts catalog old s new turn → RefusesByTable catalog old.records old.at s (moved_to new turn)
refused_by_table catalog old s new turn t = by_table catalog old.number old.records old.at s (moved_to new turn) t.moves
