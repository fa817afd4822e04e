-- The functions of a package whose files are read are derived, each by itself.
use Rattle.std.proofs.Common.{◌≡◌, ◌∙◌, ℕ, zero, suc, ◌+◌, ◌-◌, ◌<◌, ◌≤◌, Bool, true, false, List, [], ◌∷◌, ◌++◌, map, drop, Option, Some, refl, sym, ap, subst, arith}
use Rattle.std.specs.Prelude.{slice_get, if◌then◌else◌}
use Rattle.go_tokens.specs.declared.token.TokenKind.{TokenKind}
use Rattle.go_tokens.specs.declared.token.TokenKind.TheVariants as token
use Rattle.go_tokens.specs.Tokens.{TokenList, kinds}
use Rattle.go_grammar.specs.declared.kind.Category.{Category}
use Rattle.go_grammar.specs.declared.kind.Category.TheVariants as category
use Rattle.go_grammar.specs.declared.kind.Kind.{Kind}
use Rattle.go_grammar.specs.declared.kind.Kind.TheVariants as kind
use Rattle.go_grammar.specs.Rules.{Items, Each, Many}
use Rattle.go_grammar.specs.Trees.{Tree, node, Trees, none, more, skip, kind_of, first, last, parts}
use Rattle.go_grammar.specs.Grammar.{Derives, Spells, Goes, result_words}
use Rattle.go_grammar.proofs.Public.{derives_grows}
use Rattle.go_grammar.specs.Words.{is_word, is_among}
use Rattle.go_rewriting.specs.Lists.{no_clause, Elsewhere}
use Rattle.go_rewriting.specs.Places.{carry, carries}
use Rattle.go_rewriting.specs.Replacing.{moved}
use Rattle.go_tree.specs.Lists.{is_function, functions}
use Rattle.go_tree.specs.Units.{word, is_blank}
use Rattle.go_heads.specs.Functions.{Function, AreRead, functions_in, all_functions, texts_from, function_alone}
use Rattle.go_heads.specs.Heads.{File}
use Rattle.go_heads.specs.Locals.{HaveNames, AreNamed}
use Rattle.go_heads.specs.Names.{text_there}
use Rattle.go_heads.proofs.Public.{texts_length}
use Rattle.go_scopes_events.proofs.Public.{IsLaidOut, derives_laid, lie_order, true_false}
use Rattle.extract_names_derived.specs.Functions.{own_kinds, IsDerivedFunction}
use Rattle.extract_names_derived.proofs.Texts.{get_drop}

-- A text stands where the same tokens stand, counted from its first one.
abbrev pub StandsElsewhere : Type 0
StandsElsewhere = (ts us : List TokenKind) (i j to : ℕ) → Elsewhere ts us i j to → (c : Category) (t : Tree) → no_clause c ≡ true → i ≤ first t → last t ≤ j → Derives ts c t → Derives us c (carry (moved i to) t)

-- ---- places

module _ (m n : ℕ → ℕ) (e : (i : ℕ) → m i ≡ n i) where
  mutual
    pub carry_same : (t : Tree) → carry m t ≡ carry n t
    carry_same (node k i j ps) = ap (λ x. node k x (m j) (carries m ps)) (e i) ∙ ap (λ x. node k (n i) x (carries m ps)) (e j) ∙ ap (node k (n i) (n j)) (carries_same ps)

    pub carries_same : (ps : Trees) → carries m ps ≡ carries n ps
    carries_same none = refl
    carries_same (more p ps) = ap (λ x. more x (carries m ps)) (carry_same p) ∙ ap (more (carry n p)) (carries_same ps)
    carries_same (skip ps) = ap skip (carries_same ps)

dropped : (ts : List TokenKind) (i n : ℕ) → i ≤ n → slice_get (drop i ts) (moved i 0 n) ≡ slice_get ts n
dropped ts i n le = get_drop i ts (moved i 0 n) ∙ ap (slice_get ts) (let e : i + moved i 0 n ≡ n = omega (arith, le) in e)

from_first : (ts : List TokenKind) (i j : ℕ) → i ≤ j → Elsewhere ts (drop i ts) i j 0
from_first ts i j le = record {
  same = λ n lo hi. dropped ts i n lo;
  edge = record {
    brace = λ h. subst (λ (w : Option TokenKind). is_word w token.LeftBrace ≡ true) (dropped ts i j le) h;
    result = λ n e at h. subst (λ (w : Option TokenKind). is_among w result_words ≡ true) (dropped ts i j le) h;
  };
}

derived_alone : StandsElsewhere → (ts : List TokenKind) (t : Tree) → Derives ts category.Declaration t → Derives (drop (first t) ts) category.Declaration (carry (λ n. n - first t) t)
derived_alone f ts t h =
    let grows : first t < last t = derives_grows ts t category.Declaration h in
    subst (Derives (drop (first t) ts) category.Declaration) (carry_same (moved (first t) 0) (λ n. n - first t) (λ i. omega arith) t)
    (f ts (drop (first t) ts) (first t) (last t) 0 (from_first ts (first t) (last t) (omega (arith, grows))) category.Declaration t refl (omega arith) (omega arith) h)

-- ---- texts

texts_get : (l : TokenList) (i n k : ℕ) → k < n → slice_get (texts_from l i n) k ≡ Some (word l (i + k))
texts_get l i zero k lt = absurd (omega (arith, lt))
texts_get l i (suc n) zero lt = ap (λ x. Some (word l x)) (let e : i ≡ i + 0 = omega arith in e)
texts_get l i (suc n) (suc k) lt = texts_get l (suc i) n k (omega (arith, lt)) ∙ ap (λ x. Some (word l x)) (let e : suc i + k ≡ i + suc k = omega arith in e)

function_long : (t : Tree) → kind_of t ≡ kind.FunctionDeclaration → IsLaidOut t → suc (suc (first t)) ≤ last t
function_long (node kind.FunctionDeclaration i j ps) k h = lie_order (suc (suc i)) j ps h.1
function_long (node k i j ps) e h = absurd cc

-- ---- one function

first_carry : (m : ℕ → ℕ) (t : Tree) → first (carry m t) ≡ m (first t)
first_carry m (node k i j ps) = refl

last_carry : (m : ℕ → ℕ) (t : Tree) → last (carry m t) ≡ m (last t)
last_carry m (node k i j ps) = refl

kind_carry : (m : ℕ → ℕ) (t : Tree) → kind_of (carry m t) ≡ kind_of t
kind_carry m (node k i j ps) = refl

function_derived : StandsElsewhere → (f : Function) → kind_of f.tree ≡ kind.FunctionDeclaration → Derives (kinds f.file.tokens.tokens) category.Declaration f.tree → is_blank (word f.file.tokens (suc (first f.tree))) ≡ false
    → IsDerivedFunction (own_kinds f) (function_alone f)
function_derived e f k h named =
    let t : Tree = f.tree in
    let l : TokenList = f.file.tokens in
    let n : ℕ = last t - first t in
    let long : suc (suc (first t)) ≤ last t = function_long t k (derives_laid (kinds l.tokens) t category.Declaration h) in
    record {
      derives = derived_alone e (kinds l.tokens) t h;
      function = kind_carry (λ x. x - first t) t ∙ k;
      begins = first_carry (λ x. x - first t) t ∙ (let z : first t - first t ≡ 0 = omega arith in z);
      ends = last_carry (λ x. x - first t) t ∙ sym (texts_length l (first t) n);
      named =
          ap (λ o. is_blank (text_there o)) (texts_get l (first t) n 1 (omega (arith, long)))
          ∙ ap (λ x. is_blank (word l x)) (let z : first t + 1 ≡ suc (first t) = omega arith in z) ∙ named;
    }

-- ---- the functions of a file

-- of each of some functions
abbrev AllOf : (Function → Type 0) → List Function → Type 0
AllOf Q [] = Unit {0}
AllOf Q (f ∷ fs) = Q f × AllOf Q fs

each_append : (Q : Function → Type 0) (fs gs : List Function) → AllOf Q fs → AllOf Q gs → AllOf Q (fs ++ gs)
each_append Q [] gs h g = g
each_append Q (f ∷ fs) gs h g = (h.0, each_append Q fs gs h.1 g)

each_get : (Q : Function → Type 0) (fs : List Function) (k : ℕ) (f : Function) → AllOf Q fs → slice_get fs k ≡ Some f → Q f
each_get Q [] k f h e = absurd cc
each_get Q (g ∷ fs) zero f h e = let same : g ≡ f = cc in subst Q same h.0
each_get Q (g ∷ fs) (suc k) f h e = each_get Q fs k f h.1 e

function_kind : (k : Kind) → is_function k ≡ true → k ≡ kind.FunctionDeclaration
function_kind kind.FunctionDeclaration e = refl
function_kind k e = absurd (true_false false e refl)

module _ (stand : StandsElsewhere) (f : File) where
  abbrev ts : List TokenKind
  ts = kinds f.tokens.tokens

  abbrev Derived : Function → Type 0
  Derived g = IsDerivedFunction (own_kinds g) (function_alone g)

  abbrev in_file : List Tree → List Function
  in_file us = map (λ (t : Tree). record { file = f; tree = t }) us

  one_function : (p : Tree) (us : List Tree) → Derives ts category.Declaration p → HaveNames f.tokens (if is_function (kind_of p) then p ∷ us else us) → (HaveNames f.tokens us → AllOf Derived (in_file us))
      → AllOf Derived (in_file (if is_function (kind_of p) then p ∷ us else us))
  one_function p us h n rest = by (is_function (kind_of p)) refl n
    where
      by : (b : Bool) → is_function (kind_of p) ≡ b → HaveNames f.tokens (if b then p ∷ us else us) → AllOf Derived (in_file (if b then p ∷ us else us))
      by true e m = (function_derived stand (record { file = f; tree = p }) (function_kind (kind_of p) e) h m.0, rest m.1)
      by false e m = rest m

  abbrev declarations : Items
  declarations = Each category.Declaration (token.Semicolon ∷ []) []

  goes_derived : (ps : Trees) (i j : ℕ) → Goes ts declarations i ps j → HaveNames f.tokens (functions ps) → AllOf Derived (in_file (functions ps))
  goes_derived none i j h n = tt
  goes_derived (more p ps) i j h n = one_function p (functions ps) h.3 n (λ m. goes_derived ps (last p) j h.4 m)
  goes_derived (skip ps) i j h n = absurd h

  rows_derived : (ps : Trees) (i j : ℕ) → Spells ts (Many [] declarations) i ps j → HaveNames f.tokens (functions ps) → AllOf Derived (in_file (functions ps))
  rows_derived none i j h n = tt
  rows_derived (more p ps) i j h n = one_function p (functions ps) h.3 n (λ m. goes_derived ps (last p) j h.4 m)
  rows_derived (skip ps) i j h n = absurd h

  import_other : (p : Tree) → Derives ts category.Imports p → is_function (kind_of p) ≡ false
  import_other (node kind.Imports i j ps) h = refl
  import_other (node k i j ps) h = absurd cc

  file_derived : (t : Tree) → Derives ts category.File t → HaveNames f.tokens (functions (parts t)) → AllOf Derived (in_file (functions (parts t)))
  file_derived (node kind.File i j none) h n = tt
  file_derived (node kind.File i j (more p ps)) h n =
      let e : is_function (kind_of p) ≡ false = import_other p h.1.1 in
      let same : functions (more p ps) ≡ functions ps = ap (λ b. if b then p ∷ functions ps else functions ps) e in
      subst (λ us. AllOf Derived (in_file us)) (sym same) (rows_derived ps (last p) j h.1.2 (subst (HaveNames f.tokens) same n))
  file_derived (node kind.File i j (skip ps)) h n = rows_derived ps h.1.0 j h.1.2 n
  file_derived (node k i j ps) h n = absurd cc

all_derived : StandsElsewhere → (fs : List File) → AreRead fs → AreNamed fs → AllOf (λ g. IsDerivedFunction (own_kinds g) (function_alone g)) (all_functions fs)
all_derived e [] r n = tt
all_derived e (f ∷ fs) r n = each_append (λ g. IsDerivedFunction (own_kinds g) (function_alone g)) (functions_in f) (all_functions fs) (file_derived e f f.tree r.0.tree.derives n.0) (all_derived e fs r.1 n.1)

pub functions_derived : StandsElsewhere → (fs : List File) (k : ℕ) (f : Function) → AreRead fs → AreNamed fs → slice_get (all_functions fs) k ≡ Some f → IsDerivedFunction (own_kinds f) (function_alone f)
functions_derived e fs k f r n at = each_get (λ g. IsDerivedFunction (own_kinds g) (function_alone g)) (all_functions fs) k f (all_derived e fs r n) at
