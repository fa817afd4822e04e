-- Refusals for what statements do: members overlap, or their statements return, leave a loop or a switch around the window, or fall
-- through to the next clause of a switch around it.
use Rattle.std.specs.Prelude.{ℕ, suc, Bool, true, false, ◌&&◌, ◌||◌, not, nat_eq, nat_lt, if◌then◌else◌, List, [], ◌∷◌, ◌++◌, map, filter, Option, None}
use Rattle.std.specs.List.{list_any}
use Rattle.go_typed.specs.declared.form.Form.{Form}
use Rattle.go_typed.specs.declared.form.Form.TheVariants as form
use Rattle.go_typed.specs.Lists.{present}
use Rattle.go_typed.specs.Places.{nodes_among}
use Rattle.go_typed.specs.Trees.{Typed, typed, Typeds, none, more, skip, form_of}
use Rattle.go_stmts_defs.specs.Ending.{is_break, is_fallthrough}
use Rattle.param_choose.specs.Members.{Member}
use Rattle.escape_check.specs.Places.{Sources, Place, Refused, node_place, window_place, place_if, first_of, refused_at}

-- ---- 3: a member overlaps an earlier one or repeats it

abbrev pub has_tokens : {T : Type 0} → Member T → Bool
has_tokens m = nat_lt m.from m.upto

-- they stand in one function and have a token in common
abbrev pub meets : {T : Type 0} → Member T → Member T → Bool
meets m n = nat_eq m.window.func n.window.func && nat_lt m.from n.upto && nat_lt n.from m.upto && has_tokens m && has_tokens n

abbrev pub overlapping : {T : Type 0} → Sources → List (Member T) → Member T → List Place
overlapping s earlier m = place_if (list_any (meets m) earlier) (window_place s m)

-- the first of the members, which has the number n and stands behind the earlier ones
abbrev pub overlap_from : {T : Type 0} → Sources → ℕ → List (Member T) → List (Member T) → Option Refused
overlap_from s n earlier [] = None
overlap_from s n earlier (m ∷ ms) = refused_at 3 n (first_of (overlapping s earlier m)) (overlap_from s (suc n) (earlier ++ m ∷ []) ms)

abbrev pub overlap_refused : {T : Type 0} → Sources → List (Member T) → Option Refused
overlap_refused s ms = overlap_from s 0 [] ms

-- ---- 4: a return stands in a window

abbrev pub is_return : Form → Bool
is_return form.Return = true
is_return f = false

abbrev pub returns : {T : Type 0} → Sources → Member T → List Place
returns s m = map (node_place s m) (filter (λ x. is_return (form_of x)) (nodes_among m.statements))

-- ---- 5: a break or continue has its target outside the window (Go specification: Break statements, Continue statements)

abbrev pub is_continue : Form → Bool
is_continue form.Continue = true
is_continue f = false

abbrev pub is_loop : Form → Bool
is_loop form.For = true
is_loop (form.Range defines n) = true
is_loop f = false

abbrev pub is_switch : Form → Bool
is_switch form.Switch = true
is_switch f = false

-- a break where no loop and no switch of the window is around it, or a continue where no loop is; `breaks` and `continues` say whether
-- one is
abbrev pub leaves : Bool → Bool → Form → Bool
leaves breaks continues f = (is_break f && not breaks) || (is_continue f && not continues)

abbrev mutual
  -- such statements in a tree, in order of place
  pub leaving : {T : Type 0} → Bool → Bool → Typed T → List (Typed T)
  leaving breaks continues (typed f i j l ps) =
      if leaves breaks continues f then typed f i j l ps ∷ [] else leaving_among (breaks || is_loop f || is_switch f) (continues || is_loop f) ps

  pub leaving_among : {T : Type 0} → Bool → Bool → Typeds T → List (Typed T)
  leaving_among breaks continues none = []
  leaving_among breaks continues (more p ps) = leaving breaks continues p ++ leaving_among breaks continues ps
  leaving_among breaks continues (skip ps) = leaving_among breaks continues ps

abbrev pub branches : {T : Type 0} → Sources → Member T → List Place
branches s m = map (node_place s m) (leaving_among false false m.statements)

-- ---- 6: a fallthrough belongs to a clause that isn't inside the window (Go specification: Fallthrough statements)

-- It stands in the statement list of its clause, so it is one of the window's own statements.
abbrev pub falls : {T : Type 0} → Sources → Member T → List Place
falls s m = map (node_place s m) (filter (λ x. is_fallthrough (form_of x)) (present m.statements))
