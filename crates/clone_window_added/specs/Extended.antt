-- Windows of functions that stay as they are in a package with one function more, whatever its body is, in which the bodies of other functions
-- may have changed too.
use Rattle.std.specs.Prelude.{◌≡◌, ◌⊎◌, ℕ, suc, List, map, Option, Some, Ok, slice_get}
use Rattle.std.specs.List.{AllByRecursion}
use Rattle.std.specs.Option.{option_map}
use Rattle.go_heads.specs.Functions.{AreRead}
use Rattle.go_heads.specs.Heads.{heads}
use Rattle.go_heads_added.specs.Added.{Gap, beyond}
use Rattle.go_heads_added.specs.Kept.{KeepsPackage}
use Rattle.go_heads_added.specs.Reported.{KeepsBytes}
use Rattle.go_heads_types.specs.Portions.{AreNamed, files_of}
use Rattle.go_heads_types.specs.Typings.{KeepsBody as HasItsText, rights_before}
use Rattle.go_exprs_elsewhere.specs.Elsewhere.{referent_moved}
use Rattle.go_exprs_rules.specs.Sorts.{Stands}
use Rattle.go_package_added.specs.Appended.{IsAppended, package_in}
use Rattle.go_package_added.specs.OneMore.{function_moves, with_function}
use Rattle.go_package_defs.specs.Answer.{package_answer}
use Rattle.go_package_defs.specs.Bodies.{count_types, types_in}
use Rattle.go_package_defs.specs.Checked.{Typing, sources_answer}
use Rattle.go_package_defs.specs.Sources.{Source, unit_of}
use Rattle.go_package_settled.specs.Read.{IsFaultless}
use Rattle.go_renumbering.specs.Functions.{shifted}
use Rattle.go_tree.specs.Uses.{uses}
use Rattle.go_typed.specs.Contents.{FuncContent}
use Rattle.go_typed.specs.declared.window.Window.{Window}
use Rattle.go_types.specs.Trees.{TypeTree}
use Rattle.go_types_relations.specs.Identity.{is_identical}
use Rattle.go_types_relations.specs.Renaming.{renamed}
use Rattle.clone_window.specs.Bodies.{Body, are_same}
use Rattle.clone_window.specs.Fields.{field_by}
use Rattle.clone_window.specs.Windows.{window_mass, windows}
use Rattle.clone_window.specs.declared.bounds.Bounds.{Bounds}
use Rattle.clone_classes.specs.Classes.{classes}
use Rattle.clone_window_added.specs.Reworded.{body_reworded}
use Rattle.clone_window_added.specs.Unchanged.{body_in, renumbered, window_beyond}

-- The package us has a function more than ss, at the end of the file k. It has the head of the package ms, which is ss with that function, its
-- body empty; so bodies may differ, that of the new function and others. Both ss and us type-check, and no rule fails in the names and in the
-- declarations of ms. (What ms says of bodies counts for nothing: with results and an empty body its new function lacks a return.)
pub record IsExtended (k : ℕ) (ss ms us : List Source) (names others : List (List ℕ)) (t z : Typing) : Type 0 where
  pub appended : IsAppended k ss ms
  pub keeps : KeepsPackage k appended.count (suc appended.first) (map unit_of ss) (map unit_of ms)
  pub bytes : KeepsBytes appended.count appended.old_tokens appended.new_tokens
  pub faultless : IsFaultless ss
  pub still_faultless : IsFaultless ms
  -- the files are read, under any names that they may have; the longer ones under names with which the heads are equal
  pub former : List (List ℕ)
  pub former_named : AreNamed former ss
  pub former_read : AreRead (files_of former ss)
  pub named : AreNamed names ms
  pub read : AreRead (files_of names ms)
  pub others_named : AreNamed others us
  pub others_read : AreRead (files_of others us)
  pub same_heads : heads (files_of names ms) ≡ heads (files_of others us)
  pub typed : sources_answer ss ≡ Ok t
  pub stands : Stands
  pub answer : package_answer ms (uses (map unit_of ms)) ≡ Ok (with_function keeps.gap.shared stands t.environment)
  pub longer_typed : sources_answer us ≡ Ok z

-- The function that had the number n has the body in us that it has in ms, text for text.
abbrev pub StaysAsItIs : (k : ℕ) (ss ms us : List Source) (names others : List (List ℕ)) (t z : Typing) → IsExtended k ss ms us names others t z → ℕ → Type 0
StaysAsItIs k ss ms us names others t z h n = HasItsText (package_in ms) (package_in us) names others (beyond h.keeps.gap.functions n)

-- ---- a function by itself

-- The function that had the number n is there: both are one function, with its own declared types, which are numbered from k on, behind so many
-- of the functions in front of it, and with the new numbers of functions. Its windows are the same ones, with the same masses.
pub record KeepsFunction (g : Gap) (k n : ℕ) (before after : Option FuncContent) : Type 0 where
  pub old : FuncContent
  pub new : FuncContent
  pub was : before ≡ Some old
  pub is : after ≡ Some new
  pub function : Body TypeTree
  pub in_front : ℕ
  pub now_in_front : ℕ
  pub old_body : body_in old ≡ body_reworded (renamed (shifted k in_front)) (λ o. o) function
  pub new_body : body_in new ≡ body_reworded (renamed (shifted k now_in_front)) (referent_moved (function_moves g)) function
  pub windows : (bounds : Bounds) → windows bounds (beyond g.functions n) new.tree ≡ map (window_beyond g) (windows bounds n old.tree)
  pub masses : (w : Window) → window_mass new.tree (window_beyond g w) ≡ window_mass old.tree w

-- ---- functions with one another

-- Behind the same right sides of declared types the function is the same one, types and all, but for the numbers of functions; and it leaves the
-- same right sides.
pub record KeepsTypes (g : Gap) (n : ℕ) (ss us : List Source) (t z : Typing) : Type 0 where
  pub function : slice_get (map body_in z.bodies.functions) (beyond g.functions n) ≡ option_map (renumbered g) (slice_get (map body_in t.bodies.functions) n)
  pub rights : rights_before us z (suc (beyond g.functions n)) ≡ rights_before ss t (suc n)

-- The function declares no types in its body, neither before nor after.
pub record DeclaresNoTypes (g : Gap) (n : ℕ) (ss us : List Source) : Type 0 where
  pub before : count_types (types_in (package_in ss) n) ≡ 0
  pub after : count_types (types_in (package_in us) (beyond g.functions n)) ≡ 0

-- Behind the same right sides the function leaves the same ones: so it does where its body changed outside of the declarations of types in it.
pub record LeavesTheSame (g : Gap) (n : ℕ) (ss us : List Source) (t z : Typing) : Type 0 where
  pub rights : rights_before us z (beyond g.functions n) ≡ rights_before ss t n → rights_before us z (suc (beyond g.functions n)) ≡ rights_before ss t (suc n)

-- The function stays as it is, or declares no types in its body, or leaves the same right sides.
abbrev pub MovesNoRights : (k : ℕ) (ss ms us : List Source) (names others : List (List ℕ)) (t z : Typing) → IsExtended k ss ms us names others t z → ℕ → Type 0
MovesNoRights k ss ms us names others t z h n = StaysAsItIs k ss ms us names others t z h n ⊎ (DeclaresNoTypes h.keeps.gap n ss us ⊎ LeavesTheSame h.keeps.gap n ss us t z)

-- The right sides of declared types are those that they were: in front of each function that stays as it is, and behind all functions.
pub record KeepsRights (k : ℕ) (ss ms us : List Source) (names others : List (List ℕ)) (t z : Typing) (h : IsExtended k ss ms us names others t z) : Type 0 where
  pub in_front : (n : ℕ) → StaysAsItIs k ss ms us names others t z h n → rights_before us z (beyond h.keeps.gap.functions n) ≡ rights_before ss t n
  pub all : z.bodies.rights ≡ t.bodies.rights

-- Windows of functions that stay as they are are the same with one another exactly where they were, so that they make the same classes.
pub record KeepsClasses (k : ℕ) (ss ms us : List Source) (names others : List (List ℕ)) (t z : Typing) (h : IsExtended k ss ms us names others t z) : Type 0 where
  pub same : (w v : Window) → StaysAsItIs k ss ms us names others t z h w.func → StaysAsItIs k ss ms us names others t z h v.func
      → are_same is_identical (field_by z.bodies.rights) (field_by z.bodies.rights) (map body_in z.bodies.functions) (map body_in z.bodies.functions) (window_beyond h.keeps.gap w) (window_beyond h.keeps.gap v)
      ≡ are_same is_identical (field_by t.bodies.rights) (field_by t.bodies.rights) (map body_in t.bodies.functions) (map body_in t.bodies.functions) w v
  pub classes : (ws : List Window) → AllByRecursion (λ w. StaysAsItIs k ss ms us names others t z h w.func) ws
      → classes (are_same is_identical (field_by z.bodies.rights) (field_by z.bodies.rights) (map body_in z.bodies.functions) (map body_in z.bodies.functions)) (map (window_beyond h.keeps.gap) ws)
      ≡ map (map (window_beyond h.keeps.gap)) (classes (are_same is_identical (field_by t.bodies.rights) (field_by t.bodies.rights) (map body_in t.bodies.functions) (map body_in t.bodies.functions)) ws)
