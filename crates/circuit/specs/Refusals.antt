-- "Where an answer is an enum, a definition gives this paper's number and values for each of the enum's cases."
-- Assumes nothing.
use Rattle.std.specs.Prelude.{ℕ}
use Rattle.circuit.specs.declared.Refusal.{Refusal}
use Rattle.circuit.specs.declared.Refusal.TheVariants.{Length, TooMany, Form, NotEarlier, Partner, NoBadState, Room, HasQubit, FixedTwice, FewValues, OtherCount, NoQubit, NotUsedUp, DivisorZero, NotGiven, ShortText}
use Rattle.circuit.specs.declared.Record.{Record}

-- the number in the table "Numbers for saying no"
abbrev pub number_of : Refusal → ℕ
number_of Length = 1
number_of TooMany = 2
number_of (Form r) = 3
number_of (NotEarlier r) = 4
number_of (Partner r) = 5
number_of NoBadState = 6
number_of Room = 7
number_of (HasQubit g) = 8
number_of (FixedTwice q) = 9
number_of FewValues = 10
number_of OtherCount = 11
number_of (NoQubit g) = 12
number_of (NotUsedUp i) = 13
number_of (DivisorZero q) = 14
number_of (NotGiven q) = 15
number_of ShortText = 17

-- the place: the number of a record, a gate, a qubit or an input; "where a request states no place, it is 0"
abbrev pub place_of : Refusal → ℕ
place_of Length = 0
place_of TooMany = 0
place_of (Form r) = r.0
place_of (NotEarlier r) = r.0
place_of (Partner r) = r.0
place_of NoBadState = 0
place_of Room = 0
place_of (HasQubit g) = g.0
place_of (FixedTwice q) = q.0
place_of FewValues = 0
place_of OtherCount = 0
place_of (NoQubit g) = g.0
place_of (NotUsedUp i) = i.0
place_of (DivisorZero q) = q.0
place_of (NotGiven q) = q.0
place_of ShortText = 0

-- the record n
abbrev pub place : ℕ → Record
place n = record { 0 = n }
