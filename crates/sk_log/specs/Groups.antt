-- A group of records: its head, the records of both logs, and the two halves of each commit of both engines.
use Rattle.std.specs.Prelude.{ℕ, zero, suc, ◌+◌, List, [], ◌∷◌, Option, Some, None, Result, Ok, Err, Bool, true, false, nat_lt, nat_le, ◌||◌, ◌&&◌, ◌==◌, if◌then◌else◌}
use Rattle.std.specs.Option.{is_some}
use Rattle.std.specs.Int.{w32}
use Rattle.sk_rows.specs.declared.table.Table.{Table}
use Rattle.sk_model.specs.declared.label.Label.{Label}
use Rattle.sk_model.specs.declared.commit.Commit.{Commit}
use Rattle.sk_model.specs.declared.point.Point.{Point}
use Rattle.sk_codec.specs.declared.fault.What.TheVariants as what
use Rattle.sk_codec.specs.declared.fault.Fault.{Fault}
use Rattle.sk_codec.specs.Reading.{Rest, ◌>>=◌, wrong, number_at, number_in, items_at}
use Rattle.sk_model.specs.Numbers.{greatest_number}
use Rattle.sk_codec.specs.Records.{record_at}
use Rattle.sk_codec.specs.Spelling.{own_of, number_or_0}
use Rattle.sk_log.specs.declared.logged.Logged.{Logged}
use Rattle.sk_log.specs.declared.logged.Head.{Head}

-- its number in this log's engine
abbrev pub number_of : Bool → Logged → ℕ
number_of store f = number_or_0 (own_of store f.commit)

-- a record whose number is past one and at most another
unfoldable pub logged_at : List Table → Bool → ℕ → ℕ → Rest → Result (Logged × Rest) Fault
logged_at tables store upto above rest = do
  c ← record_at tables store (above + 1) upto rest
  Ok (record { place = rest.place; commit = c.0 }, c.1)

-- so many records, whose numbers rise
abbrev pub records_at : List Table → Bool → ℕ → ℕ → ℕ → Rest → Result (List Logged × Rest) Fault
records_at tables store count upto above rest = items_at (logged_at tables store upto) (λ _ f. number_of store f) count above rest

-- Records up to a place. Each takes bytes, so that a number of them is enough.
unfoldable pub records_to : List Table → Bool → ℕ → ℕ → ℕ → ℕ → Rest → Result (List Logged) Fault
records_to tables store zero end upto above rest = Ok []
records_to tables store (suc n) end upto above rest =
    if nat_le end rest.place then Ok [] else do
      first ← logged_at tables store upto above rest
      others ← records_to tables store n end upto (number_of store first.0) first.1
      Ok (first.0 ∷ others)

-- cut a, which does not fall
unfoldable pub first_at : Point → Rest → Result (ℕ × Rest) Fault
first_at cut rest = do
  a ← number_in w32 0 greatest_number rest
  if nat_lt a.0 cut.a then Err (wrong what.Order rest) else Ok a

-- cut b, which does not fall, and rises where a did not
unfoldable pub second_at : Point → ℕ → Rest → Result (ℕ × Rest) Fault
second_at cut a rest = do
  b ← number_in w32 0 greatest_number rest
  if nat_lt b.0 cut.b || (a == cut.a && b.0 == cut.b) then Err (wrong what.Order rest) else Ok b

-- the end of the storage log, which does not fall
unfoldable pub end_at : ℕ → Rest → Result (ℕ × Rest) Fault
end_at end rest = do
  to ← number_at w32 rest
  if nat_lt to.0 end then Err (wrong what.Range rest) else Ok to

abbrev pub selection : ℕ → ℕ → Point
selection a b = record { a = a; b = b; commit = false }

unfoldable pub head_at : Point → ℕ → Rest → Result (Head × Rest) Fault
head_at cut end rest = do
  a ← first_at cut rest
  b ← second_at cut a.0 a.1
  to ← end_at end b.1
  Ok (record { cut = selection a.0 b.0; end = to.0 }, to.1)

-- the records of a body, which ends there
unfoldable pub body_at : List Table → ℕ → ℕ → ℕ → Rest → Result (List Logged) Fault
body_at tables above upto end rest = do
  count ← number_at w32 rest
  found ← records_at tables false count.0 upto above count.1
  if found.1.place == end then Ok found.0 else Err (wrong what.Length found.1)

abbrev pub same_number : Option ℕ → Option ℕ → Bool
same_number None None = true
same_number (Some n) (Some m) = n == m
same_number None (Some m) = false
same_number (Some n) None = false

abbrev pub same_label : Label → Label → Bool
same_label a b = a.session == b.session && a.k == b.k

-- the two records are of one commit: one label, and each has the other's number
abbrev pub is_half : Commit → Commit → Bool
is_half s m = same_label s.label m.label && (same_number s.mem m.mem && same_number s.store m.store)

-- the commit is of both engines
abbrev pub is_cross : Logged → Bool
is_cross f = is_some f.commit.mem && is_some f.commit.store

abbrev pub half_at : ℕ → ℕ → Fault
half_at file place = record { file = file; place = place; what = what.Half }

-- the commits of both engines in one log beside those in the other, in order
unfoldable pub halves : ℕ → ℕ → List Logged → List Logged → Result (Unit {0}) Fault
halves store anchor [] [] = Ok tt
halves store anchor [] (m ∷ ms) = Err (half_at anchor m.place)
halves store anchor (s ∷ ss) [] = Err (half_at store s.place)
halves store anchor (s ∷ ss) (m ∷ ms) = if is_half s.commit m.commit then halves store anchor ss ms else Err (half_at store s.place)
