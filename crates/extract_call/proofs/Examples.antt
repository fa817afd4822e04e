-- The examples: what is extracted, and runs, computed.
use Rattle.std.proofs.Common.{[], ◌∷◌, refl, Some}
use Rattle.std.specs.Prelude.{pos, true, false}
use Rattle.std.specs.Char.{encode_utf8}
use Rattle.std.specs.Fmt.{digits}
use Rattle.std.specs.Str.{chars, is_utf8}
use Rattle.go_types_relations.specs.Questions.{answers}
use Rattle.go_ints.specs.Wrapping.{wrapped}
use Rattle.go_meaning.specs.Computations.{undecided, end_by, then_do, looped, clause, read, write, spend, enter, each, in_order, falling, over}
use Rattle.go_meaning.specs.Operations.{operate}
use Rattle.go_meaning.specs.Doings.{stores, matches, selected, act}
use Rattle.go_typed.specs.Trees.{none}
use Rattle.go_meaning.specs.Values.{Whole}
use Rattle.go_meaning.specs.Builders.{does, returns, row_of, code}
use Rattle.extract_call.specs.Calls as calls
use Rattle.extract_call.specs.Calls.{Passed, Given}
use Rattle.extract_call.specs.Laws.{Tail}
use Rattle.extract_call.specs.Examples.{a, of_g, adds, returning_calls, calling, Examples}
use Rattle.extract_call.proofs.Loop.{looped_extracts}
use Rattle.extract_call.proofs.Declaring.{declaring_extracts}

returns_g : Tail returning_calls
returns_g = record {
  h = 2;
  new = code (Some 0 ∷ Some 1 ∷ []) 2 (adds (returns (a ∷ [])));
  there = refl;
  has = refl;
  statements = row_of (adds (returns (a ∷ [])));
  is_body = calls.body {back = none} refl refl calls.no_return;
  args = Passed 0 ∷ Given (Whole (pos 1)) ∷ [];
  keeps = true;
  tail = row_of (returns (of_g ∷ []) ∷ []);
  is_tail = calls.returns_call refl (calls.calls refl refl (calls.passed refl (calls.given refl calls.no_arguments)));
}

calls_g : Tail calling
calls_g = record {
  h = 2;
  new = code (Some 0 ∷ Some 1 ∷ []) 2 (adds (returns []));
  there = refl;
  has = refl;
  statements = row_of (adds (returns []));
  is_body = calls.body {back = none} refl refl calls.no_return;
  args = Passed 0 ∷ Given (Whole (pos 1)) ∷ [];
  keeps = false;
  tail = row_of (does of_g ∷ returns [] ∷ []);
  is_tail = calls.call_then_return refl (calls.calls refl refl (calls.passed refl (calls.given refl calls.no_arguments))) refl;
}

pub worked : Examples
unfolding encode_utf8 digits chars is_utf8 answers wrapped undecided end_by then_do looped clause read write spend enter each in_order falling over operate stores matches selected act
worked = record { loop = looped_extracts; declared = declaring_extracts; old = refl; same_turns = refl; more_turns = refl; tail = returns_g; tail_alone = calls_g; returned = refl; returned_at_same_turns = refl; returned_at_more_turns = refl }
