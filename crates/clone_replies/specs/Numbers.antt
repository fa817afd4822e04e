-- The numbers of a package that type-checks.
use Rattle.std.specs.Prelude.{ℕ, Bool, true, false, List, length, map, count_by, nat_eq}
use Rattle.std.specs.Set.{distinct_count}
use Rattle.go_base.specs.declared.bytes.FileText.{FileText}
use Rattle.go_base.specs.Package.{total_bytes}
use Rattle.go_typed.specs.Contents.{Content}
use Rattle.go_typed.specs.Packages.{PackageView}
use Rattle.go_typed.specs.Trees.{Typed, typed, more}
use Rattle.clone_window.specs.declared.bounds.Bounds.{Bounds}
use Rattle.clone_window.specs.Bodies.{bodies_of}
use Rattle.clone_classes.specs.Listing.{windows_of_all}
use Rattle.clone_replies.specs.Classes.{classes_in}
use Rattle.clone_script.specs.Replies.{stat_reply}
use Rattle.alpha_hash_defs.specs.Packages.{window_hash}
use Rattle.clone_replies.specs.declared.numbers.Numbers.{Numbers}
use Rattle.clone_replies.specs.Names.{hashes_of, windows_of}

-- a function has a block, or none
abbrev pub has_body : {T : Type 0} → Typed T → Bool
has_body (typed f i j l (more p ps)) = true
has_body x = false

-- The numbers of a package that type-checks: its files and their bytes, its functions with a body, its windows by these bounds,
-- their distinct hashes, and its clone classes.
abbrev pub numbers_in : Bounds → List FileText → Content → Numbers
numbers_in bounds texts c = record {
  files = length texts;
  bytes = total_bytes texts;
  functions = count_by (λ f. has_body f.tree) c.functions;
  windows = length (windows_of bounds c);
  hashes = distinct_count nat_eq (hashes_of bounds c);
  classes = length (classes_in bounds c);
}

-- their line
abbrev pub numbers_reply : Numbers → List ℕ
numbers_reply n = stat_reply n.files n.bytes n.functions n.windows n.hashes n.classes

-- the hashes of the windows of a package that the program holds
abbrev pub hashes_in : Bounds → PackageView → List ℕ
hashes_in bounds p = map (window_hash p) (windows_of_all bounds 0 (bodies_of p.functions))
