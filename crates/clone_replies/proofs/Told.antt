-- What the program counts of a package are its numbers.
use Rattle.std.proofs.Common.{◌≡◌, ◌∙◌, ℕ, suc, ◌+◌, List, [], ◌∷◌, length, count_by, sum_by, refl, sym, ap, arith}
use Rattle.std.proofs.lemmas.List.{length-map}
use Rattle.std.proofs.lemmas.List.Sums.{sum_by-cons}
use Rattle.std.specs.Prelude.{nat_eq}
use Rattle.std.specs.Set.{distinct_count}
use Rattle.go_base.specs.Package.{total_bytes}
use Rattle.go_tree.specs.File.{FileTree}
use Rattle.go_typed.specs.declared.window.Class.{Class}
use Rattle.go_typed.specs.Contents.{Content}
use Rattle.go_typed.specs.Funcs.{tree_of}
use Rattle.go_typed.specs.Packages.{PackageView}
use Rattle.go_package_defs.specs.Checked.{texts_by, texts_of}
use Rattle.clone_window.specs.declared.bounds.Bounds.{Bounds}
use Rattle.clone_classes.specs.Listing.{members_of}
use Rattle.clone_replies.specs.Classes.{classes_in}
use Rattle.clone_replies.specs.declared.numbers.Numbers.{Numbers}
use Rattle.clone_replies.specs.Names.{content_hash, hashes_of, windows_of}
use Rattle.clone_replies.specs.Numbers.{has_body, numbers_in}
use Rattle.clone_replies.proofs.Functions.{with_body}

as-many : (ns : List (List ℕ)) (fs : List FileTree) → length ns ≡ length fs → length (texts_by ns fs) ≡ length fs
as-many [] [] e = refl
as-many [] (f ∷ fs) e = absurd (omega (arith, e))
as-many (n ∷ ns) [] e = refl
as-many (n ∷ ns) (f ∷ fs) e = ap suc (as-many ns fs (omega (arith, e)))

all-bytes : (ns : List (List ℕ)) (fs : List FileTree) → length ns ≡ length fs → total_bytes (texts_by ns fs) ≡ sum_by (λ f. length f.tokens.text) fs
all-bytes [] [] e = refl
all-bytes [] (f ∷ fs) e = absurd (omega (arith, e))
all-bytes (n ∷ ns) [] e = absurd (omega (arith, e))
all-bytes (n ∷ ns) (f ∷ fs) e =
    sum_by-cons (λ t. length t.bytes) (record { name = n; bytes = f.tokens.text }) (texts_by ns fs)
    ∙ ap (λ k. length f.tokens.text + k) (all-bytes ns fs (omega (arith, e)))
    ∙ sym (sum_by-cons (λ (g : FileTree). length g.tokens.text) f fs)

abbrev six : ℕ → ℕ → ℕ → ℕ → ℕ → ℕ → Numbers
six a b c d e f = record { files = a; bytes = b; functions = c; windows = d; hashes = e; classes = f }

pub six-equal : {a b c d e f u v w x y z : ℕ} → a ≡ u → b ≡ v → c ≡ w → d ≡ x → e ≡ y → f ≡ z → six a b c d e f ≡ six u v w x y z
six-equal {b = b} {c = c} {d = d} {e = e} {f = f} {u = u} {v = v} {w = w} {x = x} {y = y} h i j k l m =
    ap (λ n. six n b c d e f) h ∙ ap (λ n. six u n c d e f) i ∙ ap (λ n. six u v n d e f) j ∙ ap (λ n. six u v w n e f) k ∙ ap (λ n. six u v w x n f) l ∙ ap (six u v w x y) m

-- the numbers that the program counts, by the hashes of the windows
abbrev pub counted : PackageView → List ℕ → List Class → Numbers
counted p hs cs = six (length p.files) (sum_by (λ f. length f.tokens.text) p.files) (count_by (λ f. has_body (tree_of f)) p.functions) (length hs) (distinct_count nat_eq hs) (length cs)

pub told : (bounds : Bounds) (p : PackageView) (c : Content) (hs : List ℕ) (cs : List Class) → length p.names ≡ length p.files →
    count_by (λ f. has_body (tree_of f)) p.functions ≡ with_body c.functions → hs ≡ hashes_of bounds c → members_of cs ≡ classes_in bounds c → counted p hs cs ≡ numbers_in bounds (texts_of p) c
told bounds p c hs cs many fs same listed =
    ap (λ n. six n (sum_by (λ f. length f.tokens.text) p.files) (count_by (λ f. has_body (tree_of f)) p.functions) (length hs) (distinct_count nat_eq hs) (length cs)) (sym (as-many p.names p.files many))
    ∙ ap (λ n. six (length (texts_of p)) n (count_by (λ f. has_body (tree_of f)) p.functions) (length hs) (distinct_count nat_eq hs) (length cs)) (sym (all-bytes p.names p.files many))
    ∙ ap (λ n. six (length (texts_of p)) (total_bytes (texts_of p)) n (length hs) (distinct_count nat_eq hs) (length cs)) fs
    ∙ ap (λ n. six (length (texts_of p)) (total_bytes (texts_of p)) (with_body c.functions) n (distinct_count nat_eq hs) (length cs)) (ap length same ∙ length-map (windows_of bounds c) (content_hash c))
    ∙ ap (λ ns. six (length (texts_of p)) (total_bytes (texts_of p)) (with_body c.functions) (length (windows_of bounds c)) (distinct_count nat_eq ns) (length cs)) same
    ∙ ap (six (length (texts_of p)) (total_bytes (texts_of p)) (with_body c.functions) (length (windows_of bounds c)) (distinct_count nat_eq (hashes_of bounds c))) (sym (length-map cs (λ x. x.members)) ∙ ap length listed)
