-- Refusals of windows of small functions, worked out by hand.
use Rattle.std.specs.Prelude.{◌≡◌, ℕ, List, [], ◌∷◌, map, Option, Some, None}
use Rattle.go_grammar.specs.declared.kind.Step.TheVariants as steps
use Rattle.go_types.specs.Trees.{TypeTree}
use Rattle.go_typed.specs.declared.form.Form.TheVariants as form
use Rattle.go_typed.specs.Trees.{Typed, row}
use Rattle.param_choose.specs.Examples.{content, window, statement, value}
use Rattle.param_choose.specs.Members.{Member, members_of}
use Rattle.escape_check.specs.Places.{Sources, sources_of, Place, Refused, each_refused}
use Rattle.escape_check.specs.Statements.{returns, branches, falls, overlap_refused}
use Rattle.escape_check.specs.Endings.{lost_ends}
use Rattle.escape_check.specs.Names.{escaping, local_names}

abbrev pub sources : Sources
sources = sources_of content

abbrev pub place_of : ℕ → ℕ → Place
place_of i j = record { file = 0; from = i; upto = j }

abbrev pub refused_with : ℕ → ℕ → Place → Option Refused
refused_with c n p = Some (record { code = c; member = n; place = Some p })

-- `a++`, `break`, `continue` and `fallthrough` at the tokens from 10 on
abbrev pub step : Typed TypeTree
step = statement (form.Step steps.Increment) 10 12 (Some (value (form.Local 0) 10 11 []) ∷ [])

abbrev pub break : Typed TypeTree
break = statement form.Break 13 14 []

abbrev pub continue : Typed TypeTree
continue = statement form.Continue 15 16 []

abbrev pub fall : Typed TypeTree
fall = statement form.Fallthrough 17 18 []

abbrev pub block : ℕ → ℕ → List (Option (Typed TypeTree)) → Typed TypeTree
block i j ss = statement form.Block i j ss

-- `for { a++; break }`, and a switch with `break; continue; fallthrough` in its clause
abbrev pub loop : Typed TypeTree
loop = statement form.For 8 19 (None ∷ None ∷ None ∷ Some (block 9 19 (Some step ∷ Some break ∷ [])) ∷ [])

abbrev pub switch : Typed TypeTree
switch = statement form.Switch 8 19 (None ∷ None ∷ Some (statement (form.Case 0) 9 19 (Some break ∷ Some continue ∷ Some fall ∷ [])) ∷ [])

-- these statements in the first function of the examples of choices
abbrev pub member : List (Option (Typed TypeTree)) → Member TypeTree
member ss = record { window = window 0 0 1; locals = []; declared = []; first = 3; tokens = []; statements = row ss; start = 0; from = 8; upto = 19 }

abbrev pub first_two : List (Member TypeTree)
first_two = members_of content (window 0 0 2 ∷ window 1 0 2 ∷ [])

pub record Examples : Type 0 where
  -- all three statements of the first function: it returns at its tokens 20 and 21
  pub returned : each_refused 4 (returns sources) (members_of content (window 0 0 3 ∷ [])) ≡ refused_with 4 0 (place_of 23 25)
  pub not_returned : each_refused 4 (returns sources) first_two ≡ None
  -- the second member is a part of the first one
  pub overlap : overlap_refused sources (members_of content (window 0 0 2 ∷ window 0 1 1 ∷ [])) ≡ refused_with 3 1 (place_of 17 22)
  -- it is the first one again
  pub repeated : overlap_refused sources (members_of content (window 0 0 2 ∷ window 0 0 2 ∷ [])) ≡ refused_with 3 1 (place_of 11 22)
  pub apart : overlap_refused sources first_two ≡ None
  pub beside : overlap_refused sources (members_of content (window 0 0 1 ∷ window 0 1 1 ∷ [])) ≡ None
  -- a break of a loop around the window, and of one in it
  pub break_outside : branches sources (member (Some step ∷ Some break ∷ [])) ≡ place_of 16 17 ∷ []
  pub break_inside : branches sources (member (Some loop ∷ [])) ≡ []
  -- a switch stops a break, but no continue
  pub in_switch : branches sources (member (Some switch ∷ [])) ≡ place_of 18 19 ∷ []
  -- a fallthrough of a clause around the window, and of one in it
  pub falls_outside : falls sources (member (Some step ∷ Some fall ∷ [])) ≡ place_of 20 21 ∷ []
  pub falls_inside : falls sources (member (Some switch ∷ [])) ≡ []
  -- with a call in place of the last statements a function with results ends without a return
  pub end_lost : each_refused 9 (lost_ends sources content.functions) (members_of content (window 0 1 2 ∷ [])) ≡ refused_with 9 0 (place_of 17 25)
  pub end_kept : each_refused 9 (lost_ends sources content.functions) first_two ≡ None
  -- no constant and no type is declared, and no local stands in a type
  pub none_escapes : map (escaping sources) first_two ≡ [] ∷ [] ∷ []
  pub all_writable : map (local_names sources) first_two ≡ [] ∷ [] ∷ []
