-- A function tells by itself what it tells in its file.
use Rattle.std.proofs.Common.{◌≡◌, ◌∙◌, ℕ, zero, suc, ◌+◌, ◌-◌, ◌≤◌, Bool, true, false, List, [], ◌∷◌, ◌++◌, map, Some, refl, sym, ap, subst, arith}
use Rattle.std.specs.Prelude.{slice_get, if◌then◌else◌}
use Rattle.go_tokens.specs.declared.token.TokenKind.{TokenKind}
use Rattle.go_tokens.specs.Tokens.{kinds}
use Rattle.go_grammar.specs.declared.kind.Kind.TheVariants as kind
use Rattle.go_grammar.specs.declared.kind.Category.TheVariants as category
use Rattle.go_grammar.specs.Trees.{Tree, node, Trees, none, more, skip, kind_of, first, last, parts}
use Rattle.go_grammar.specs.Grammar.{Derives}
use Rattle.go_rewriting.specs.Lists.{InOrder, Ordered}
use Rattle.go_rewriting.specs.Places.{carry, carries}
use Rattle.go_rewriting.proofs.Public.{tree_order, derives_ordered}
use Rattle.go_tree.specs.Contexts.{file_context}
use Rattle.go_tree.specs.Events.{events}
use Rattle.go_tree.specs.Lists.{is_function, functions}
use Rattle.go_scopes_events.specs.Moved.{moved, all_moved, moved_event}
use Rattle.go_scopes_events.proofs.Public.{events_moved}
use Rattle.go_heads.specs.Functions.{Function, functions_in, all_functions, AreRead}
use Rattle.go_heads.specs.Heads.{File, in_bodies}
use Rattle.go_heads.proofs.Functions.{same_some, some_none}
use Rattle.go_heads.proofs.Outlines.{AllSit, OthersSit, file_sat, function_kind}
use Rattle.go_heads.specs.Bodies.{TellsByItself}
use Rattle.go_heads.proofs.Ends.{function_end}

-- ---- trees that are moved to and fro

back : (a i : ℕ) → a ≤ i → a + (i - a) ≡ i
back a i le = omega (arith, le)

mutual
  tree_back : (a : ℕ) (t : Tree) → InOrder t → a ≤ first t → moved a (carry (λ n. n - a) t) ≡ t
  tree_back a (node k i j ps) h le =
      ap (λ x. node k x (a + (j - a)) (all_moved a (carries (λ n. n - a) ps))) (back a i le)
      ∙ ap (λ x. node k i x (all_moved a (carries (λ n. n - a) ps))) (back a j (omega (arith, le, h.0)))
      ∙ ap (node k i j) (row_back a ps i j h.1 le)

  row_back : (a : ℕ) (ps : Trees) (i j : ℕ) → Ordered i ps j → a ≤ i → all_moved a (carries (λ n. n - a) ps) ≡ ps
  row_back a none i j h le = refl
  row_back a (more t ts) i j h le =
      ap (λ x. more x (all_moved a (carries (λ n. n - a) ts))) (tree_back a t h.1 (omega (arith, le, h.0)))
      ∙ ap (more t) (row_back a ts (last t) j h.2 (omega (arith, le, h.0, tree_order t h.1)))
  row_back a (skip ts) i j h le = ap skip (row_back a ts i j h le)

-- ---- one function

abbrev pub Tells : Tree → Type 0
Tells t = (end : ℕ) → events (file_context end) t ≡ map (moved_event (first t)) (events (file_context 0) (carry (λ n. n - first t) t))

module _ (ts : List TokenKind) where
  declared_tells : (i j : ℕ) (ps : Trees) → Derives ts category.Declaration (node kind.FunctionDeclaration i j ps) → Tells (node kind.FunctionDeclaration i j ps)
  declared_tells i j ps h end =
      let t : Tree = node kind.FunctionDeclaration i j ps in
      function_end ts end (i + 0) i j ps h
      ∙ ap (events (file_context (i + 0))) (sym (tree_back i t (derives_ordered ts t category.Declaration h) (omega arith)))
      ∙ events_moved i (file_context 0) (carry (λ n. n - i) t)

  pub tells : (t : Tree) → is_function (kind_of t) ≡ true → Derives ts category.Declaration t → Tells t
  tells (node k i j ps) e h =
      let f : k ≡ kind.FunctionDeclaration = function_kind k e in
      subst (λ x. Tells (node x i j ps)) (sym f) (declared_tells i j ps (subst (λ x. Derives ts category.Declaration (node x i j ps)) f h))

  abbrev AllTell : List Tree → Type 0
  AllTell [] = Unit {0}
  AllTell (t ∷ us) = Tells t × AllTell us

  if_tells : (c : Bool) (d : Tree) (us : List Tree) → is_function (kind_of d) ≡ c → Derives ts category.Declaration d → AllTell us → AllTell (if c then d ∷ us else us)
  if_tells true d us e h k = (tells d e h, k)
  if_tells false d us e h k = k

  module _ (p : ℕ → Bool) where
    all_tell : (ps : Trees) → AllSit ts p ps → AllTell (functions ps)
    all_tell none h = tt
    all_tell (more d ds) h = if_tells (is_function (kind_of d)) d (functions ds) refl h.0.derives (all_tell ds h.1)
    all_tell (skip ds) h = all_tell ds h

    others_tell : (ps : Trees) → OthersSit ts p ps → AllTell (functions ps)
    others_tell none h = tt
    others_tell (more d ds) h = subst (λ c. AllTell (if c then d ∷ functions ds else functions ds)) (sym h.0) (all_tell ds h.3)
    others_tell (skip ds) h = all_tell ds h

-- ---- by number

abbrev Telling : List Function → Type 0
Telling [] = Unit {0}
Telling (f ∷ fs) = TellsByItself f × Telling fs

telling_append : (fs gs : List Function) → Telling fs → Telling gs → Telling (fs ++ gs)
telling_append [] gs h k = k
telling_append (f ∷ fs) gs h k = (h.0, telling_append fs gs h.1 k)

in_file : (f : File) (us : List Tree) → AllTell (kinds f.tokens.tokens) us → Telling (map (λ t. record { file = f; tree = t }) us)
in_file f [] h = tt
in_file f (t ∷ us) h = (record { events = h.0 }, in_file f us h.1)

all_telling : (fs : List File) → AreRead fs → Telling (all_functions fs)
all_telling [] h = tt
all_telling (f ∷ fs) h =
    telling_append (functions_in f) (all_functions fs)
    (in_file f (functions (parts f.tree)) (others_tell (kinds f.tokens.tokens) (in_bodies (parts f.tree)) (parts f.tree) (file_sat (kinds f.tokens.tokens) f.tree h.0.tree)))
    (all_telling fs h.1)

telling_at : (fs : List Function) → Telling fs → (n : ℕ) (f : Function) → slice_get fs n ≡ Some f → TellsByItself f
telling_at [] h n f e = absurd (some_none f (sym e))
telling_at (g ∷ fs) h zero f e = subst TellsByItself (same_some g f e) h.0
telling_at (g ∷ fs) h (suc n) f e = telling_at fs h.1 n f e

pub functions_tell : (fs : List File) → AreRead fs → (n : ℕ) (f : Function) → slice_get (all_functions fs) n ≡ Some f → TellsByItself f
functions_tell fs h n f e = telling_at (all_functions fs) (all_telling fs h) n f e
