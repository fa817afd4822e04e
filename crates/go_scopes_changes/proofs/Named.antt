-- In packages with equal heads functions of one number have one name, so that none has the blank one where none had.
use Rattle.std.proofs.Common.{◌≡◌, ◌∙◌, ℕ, zero, suc, ◌+◌, ◌-◌, Bool, true, false, List, [], ◌∷◌, ◌++◌, map, length, Some, refl, sym, ap, subst, arith}
use Rattle.std.specs.Prelude.{if◌then◌else◌, slice_get}
use Rattle.std.specs.List.{AllByRecursion}
use Rattle.go_grammar.specs.Trees.{Tree, node, none, more, skip, first, last, parts}
use Rattle.go_tree.specs.Lists.{is_function, functions}
use Rattle.go_tree.specs.Units.{word, is_blank}
use Rattle.go_heads.specs.FunctionNames.{function_name}
use Rattle.go_heads.specs.Functions.{Function, Alone, AreRead, KeepsFunctions, all_functions, signature_alone}
use Rattle.go_heads.specs.Heads.{File, without_body}
use Rattle.go_heads.specs.Locals.{HaveNames, AreNamed}
use Rattle.go_heads.specs.Names.{text_there}
use Rattle.go_heads.proofs.Public.{IsThere, is_there, same_some, texts_at}

-- ---- names

pub bare_begins : (t : Tree) → first (without_body t) ≡ first t
bare_begins (node k i j none) = refl
bare_begins (node k i j (skip ps)) = refl
bare_begins (node k i j (more s none)) = refl
bare_begins (node k i j (more s (skip ps))) = refl
bare_begins (node k i j (more s (more b ps))) = by (is_function k)
  where
    by : (c : Bool) → first (if c then node k i (first b) (more s (skip ps)) else node k i j (more s (more b ps))) ≡ i
    by true = refl
    by false = refl

-- the name of a function is the second text of its signature
second_text : (g : Function) → IsThere g → text_there (slice_get (signature_alone g).texts 1) ≡ function_name g
second_text g h =
    let u : Tree = without_body g.tree in
    let b : first u ≡ first g.tree = bare_begins g.tree in
    texts_at g.file.tokens (first u) (last u - first u) 1 (omega (arith, h.made.named, b)) ∙ ap (word g.file.tokens) (let z : first u + 1 ≡ suc (first g.tree) = omega (arith, b) in z)

one_name : (f g : Function) → IsThere f → IsThere g → signature_alone g ≡ signature_alone f → function_name g ≡ function_name f
one_name f g h k e = sym (second_text g k) ∙ ap (λ (a : Alone). text_there (slice_get a.texts 1)) e ∙ second_text f h

-- ---- numbers

pub there_too : {A : Type 0} (xs ys : List A) → length ys ≡ length xs → (k : ℕ) (y : A) → slice_get ys k ≡ Some y → (x : A) × (slice_get xs k ≡ Some x)
there_too [] [] e k y h = absurd cc
there_too [] (z ∷ ys) e k y h = absurd (omega (arith, e))
there_too (x ∷ xs) [] e k y h = absurd cc
there_too (x ∷ xs) (z ∷ ys) e zero y h = (x, refl)
there_too (x ∷ xs) (z ∷ ys) e (suc k) y h = there_too xs ys (omega (arith, e)) k y h

pub each_from : {A : Type 0} (Q : A → Type 0) (xs : List A) → ((k : ℕ) (x : A) → slice_get xs k ≡ Some x → Q x) → AllByRecursion Q xs
each_from Q [] h = tt
each_from Q (x ∷ xs) h = (h zero x refl, each_from Q xs (λ k. h (suc k)))

pub each_at : {A : Type 0} (Q : A → Type 0) (xs : List A) → AllByRecursion Q xs → (k : ℕ) (x : A) → slice_get xs k ≡ Some x → Q x
each_at Q [] h k x e = absurd cc
each_at Q (y ∷ ys) h zero x e = subst Q (same_some y x e) h.0
each_at Q (y ∷ ys) h (suc k) x e = each_at Q ys h.1 k x e

-- ---- packages

-- It doesn't have the blank name.
abbrev HasName : Function → Type 0
HasName g = is_blank (function_name g) ≡ false

abbrev in_file : File → Tree → Function
in_file f t = record { file = f; tree = t }

row_named : (f : File) (ts : List Tree) (gs : List Function) → AllByRecursion HasName (map (in_file f) ts ++ gs) → HaveNames f.tokens ts × AllByRecursion HasName gs
row_named f [] gs h = (tt, h)
row_named f (t ∷ ts) gs h = let rest = row_named f ts gs h.1 in ((h.0, rest.0), rest.1)

all_named : (fs : List File) → AllByRecursion HasName (all_functions fs) → AreNamed fs
all_named [] h = tt
all_named (f ∷ fs) h = let x = row_named f (functions (parts f.tree)) (all_functions fs) h in (x.0, all_named fs x.1)

named_row : (f : File) (ts : List Tree) (gs : List Function) → HaveNames f.tokens ts → AllByRecursion HasName gs → AllByRecursion HasName (map (in_file f) ts ++ gs)
named_row f [] gs h k = k
named_row f (t ∷ ts) gs h k = (h.0, named_row f ts gs h.1 k)

named_all : (fs : List File) → AreNamed fs → AllByRecursion HasName (all_functions fs)
named_all [] h = tt
named_all (f ∷ fs) h = named_row f (functions (parts f.tree)) (all_functions fs) h.0 (named_all fs h.1)

pub names_stay : (old new : List File) → AreRead old → AreRead new → KeepsFunctions old new → AreNamed old → AreNamed new
names_stay old new h k keeps named =
    all_named new
    (each_from HasName (all_functions new)
    (λ n g e.
    let x = there_too (all_functions old) (all_functions new) keeps.count n g e in
    ap is_blank (one_name x.0 g (is_there old h n x.0 x.1) (is_there new k n g e) (keeps.signatures n x.0 g x.1 e))
    ∙ each_at HasName (all_functions old) (named_all old named) n x.0 x.1))
