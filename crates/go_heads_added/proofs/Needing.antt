-- What the declarations of a package need where a function is appended to a file, and how many functions stand in front of it.
use Rattle.std.proofs.Common.{◌≡◌, ◌∙◌, ℕ, suc, ◌+◌, ◌≤◌, Bool, true, false, List, [], ◌∷◌, map, refl, ap, arith}
use Rattle.std.specs.Prelude.{if◌then◌else◌}
use Rattle.std.specs.List.{AllByRecursion}
use Rattle.go_tree.specs.declared.context.Block.{Block}
use Rattle.go_tree.specs.declared.context.Block.TheVariants as block
use Rattle.go_tree.specs.Contexts.{is_package}
use Rattle.go_tree.specs.Declarations.{Found, is_function, new_among}
use Rattle.go_tree.specs.Meanings.{Numbers, first_numbers, behind_shared, numbers_behind, meanings}
use Rattle.go_tree.specs.Needs.{Needed}
use Rattle.go_tree.specs.Units.{Unit}
use Rattle.go_tree.specs.Uses.{declared_by, declared_in_package, count_functions}
use Rattle.go_heads_added.specs.Added.{IsAdded, LiesIn, NoneSays, IsParameter, behind, gap_in}
use Rattle.go_heads_added.specs.Faults.{FileIsWithin}
use Rattle.go_heads_added.specs.Kept.{KeepsNeeds, StandsInFront, needed_after, looked_up, longer_need}
use Rattle.go_heads_added.specs.Within.{IsOfFunction, SiteBehind}
use Rattle.go_heads_added.proofs.Circles.{needed_same, needed_old}
use Rattle.go_heads_added.proofs.Following as following
use Rattle.go_heads_added.proofs.Found.{found_before, found_after}
use Rattle.go_heads_added.proofs.Names.{g, front, rest, kept}
use Rattle.go_heads_added.proofs.Texts.{all_both, all_more}

-- ---- how many functions

functions_count : (l : Numbers) (ds : List Found) → (behind l ds).functions ≡ l.functions + count_functions (declared_in_package ds)
functions_count l [] = omega arith
functions_count l (d ∷ ds) = by d.it.block (functions_count (numbers_behind l d.it.entity d.it.block) ds)
  where
    one : (f : Bool) (c : ℕ) → (behind_shared l f).functions + c ≡ l.functions + (if f then suc c else c)
    one true c = omega arith
    one false c = refl

    by : (b : Block) → (behind (numbers_behind l d.it.entity b) ds).functions ≡ (numbers_behind l d.it.entity b).functions + count_functions (declared_in_package ds)
        → (behind (numbers_behind l d.it.entity b) ds).functions ≡ l.functions + count_functions (if is_package b then declared_by d ∷ declared_in_package ds else declared_in_package ds)
    by block.Package e = e ∙ one (is_function d.it.entity) (count_functions (declared_in_package ds))
    by (block.Local j) e = e

module _ (k n : ℕ) (name : List ℕ) (old new : List Unit) (h : IsAdded k n name old new) (i : LiesIn k n name old new h) where
  pub functions_in_front : count_functions (declared_in_package (kept k n name old new h i)) ≡ (gap_in k n name old new h).functions
  functions_in_front =
      let c = functions_count first_numbers (kept k n name old new h i) in
      let e = ap (λ ds. (behind first_numbers (new_among ds (front k n name old new h i))).functions) (found_before k n name old new h i) in
      omega (arith, c, e)

  module _ (q : NoneSays name old) (w : FileIsWithin k n name old new h) (tells : AllByRecursion (IsOfFunction n) h.longer.added) where
    news : AllByRecursion (λ a. (a.file ≡ k) × SiteBehind n a.it.site) (following.mid k n name old new h i q w)
    news = following.news_in k n name old new h i q w (meanings new) h.longer.added tells

    same : (r : ℕ) (x : Needed) → StandsInFront k n x.it → needed_after (looked_up new) r (longer_need k h.longer.end x) ≡ map (longer_need k h.longer.end) (needed_after (looked_up old) r x)
    same r x o =
        needed_same k n h.longer.end (g k n name old new h i) (following.mid k n name old new h i q w) (looked_up old) (looked_up new) (following.follow k n name old new h i q w) news
        (following.asks_old k n name old new h i q w) r x o

    stay : (r : ℕ) (x : Needed) → AllByRecursion (λ y. StandsInFront k n y.it) (needed_after (looked_up old) r x)
    stay r x =
        needed_old k n h.longer.end (g k n name old new h i) (following.mid k n name old new h i q w) (looked_up old) (looked_up new) (following.follow k n name old new h i q w) news
        (following.asks_old k n name old new h i q w) r x

    pub needs_kept : KeepsNeeds k n h.longer.end old new
    needs_kept = record {
      first = front k n name old new h i;
      second = rest k n name old new h i;
      between = h.longer.function ∷ h.longer.parameters;
      were = found_before k n name old new h i;
      are = found_after k n name old new h i;
      later = (
        (h.longer.is_function.file, h.longer.is_function.named),
        all_more (IsParameter k n) (λ d. (d.file ≡ k) × (n ≤ d.it.name)) (λ d p. (p.file, p.named)) h.longer.parameters h.longer.are_parameters,
      );
      stand = all_both (StandsInFront k n) (front k n name old new h i) (rest k n name old new h i) (following.front_is_old k n name old new h i q w)
          (following.behind_in k n name old new h i q w (suc k) h.behind (omega arith));
      same = same;
      stay = stay;
    }
