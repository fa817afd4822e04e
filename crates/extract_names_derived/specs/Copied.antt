-- A function that begins with a copy of a run of another one, with names in place of some expressions: what both tell.
use Rattle.std.specs.Prelude.{◌≡◌, false, List, [], ◌++◌}
use Rattle.go_grammar.specs.Trees.{Trees}
use Rattle.go_rewriting.specs.Places.{Patches, done, become_all}
use Rattle.go_tree.specs.declared.context.Context.{Context}
use Rattle.go_heads.specs.Bodies.{function_events}
use Rattle.go_heads.specs.Functions.{Alone}
use Rattle.go_scopes_bodies.specs.Listed.{told_list}
use Rattle.extract_names.specs.Copies.{Copy, told_copied, AllCopied}
use Rattle.extract_names.specs.Pieces.{Piece, told_before}
use Rattle.extract_names_derived.specs.Apart.{AreHoles, HolesLook}
use Rattle.extract_names_derived.specs.Bodies.{BodySplits}
use Rattle.extract_names_derived.specs.Copies.{SplitsAt, RunPlaced}
use Rattle.extract_names_derived.specs.Holes.{HolesInList, hole_list}

-- the same where no branch may leave
abbrev pub outside_loops : Context → Context
outside_loops x = record x { breaks = false; continues = false }

-- The body of the new function has the statements of the run, with names in place of expressions, and others behind them. No branch leaves
-- the run: it tells the same where it stands in no loop, and behind it no clause.
pub record CopyStands (a new : Alone) (c : Copy) (s : SplitsAt a c) : Type 0 where
  pub holes : Patches
  pub others : Trees
  pub split : BodySplits new c.body c.close (become_all c.place s.run_told.statements holes) others
  pub around : c.around ≡ s.run_told.around
  pub inside : HolesInList c.place s.run_told.statements holes
  pub stays : told_list s.run_told.context s.run_told.followed s.run_told.statements ≡ told_list (outside_loops s.run_told.context) false s.run_told.statements

abbrev pub copy_pieces : (a new : Alone) (c : Copy) (s : SplitsAt a c) → CopyStands a new c s → List Piece
copy_pieces a new c s x = hole_list c (outside_loops s.run_told.context) false s.run_told.statements x.holes

-- So the pieces of the run are what it tells, and the new function tells them in front of what the other statements tell.
pub record CopyTold (a new : Alone) (c : Copy) (s : SplitsAt a c) (x : CopyStands a new c s) : Type 0 where
  pub told : told_before (copy_pieces a new c s x) ≡ s.run
  pub new_told : function_events new ≡ x.split.head ++ (told_copied c (copy_pieces a new c s x) ++ told_list x.split.context false x.others)
  -- Where no expression is replaced all of the run is copied.
  pub copied : c.end ≡ s.run_told.context.end → c.holes ≡ [] → x.holes ≡ done → AllCopied c [] (copy_pieces a new c s x)
  -- Where names stand in place of holes, which declare none, all of the run outside the holes is copied, and in place of each hole one
  -- name is looked up.
  pub holes_copied : c.end ≡ s.run_told.context.end → RunPlaced a new c → AreHoles c s.run_told.statements x.holes → HolesLook (copy_pieces a new c s x) → AllCopied c c.holes (copy_pieces a new c s x)
