-- Where names, blocks and locals lie in a package of which a file has one function more.
use Rattle.std.proofs.Common.{◌≡◌, ◌∙◌, ℕ, suc, ◌+◌, ◌<◌, ◌≤◌, ◌⊎◌, inl, inr, append_assoc, append-nil, Bool, true, false, ◌&&◌, ◌||◌, not, List, [], ◌∷◌, ◌++◌, length, refl, sym, ap, subst, arith}
use Rattle.std.specs.Prelude.{if◌then◌else◌}
use Rattle.std.specs.List.{AllByRecursion}
use Rattle.std.proofs.lemmas.Bool.{eqb-true}
use Rattle.go_tokens.specs.Tokens.{TokenList}
use Rattle.go_tokens.specs.declared.token.TokenKind.{TokenKind}
use Rattle.go_grammar.specs.declared.kind.Category.TheVariants as category
use Rattle.go_grammar.specs.declared.kind.Kind.TheVariants as kind
use Rattle.go_grammar.specs.Trees.{Tree, node, Trees, last}
use Rattle.go_grammar.specs.Grammar.{IsFile, Derives}
use Rattle.go_rewriting.specs.Places.{with_declaration}
use Rattle.go_tree.specs.declared.context.Block.{Block}
use Rattle.go_tree.specs.declared.context.Block.TheVariants as block
use Rattle.go_tree.specs.declared.context.Entity.{Entity}
use Rattle.go_tree.specs.declared.context.Entity.TheVariants as entity
use Rattle.go_tree.specs.declared.context.Manner.{Manner}
use Rattle.go_tree.specs.declared.context.Manner.TheVariants as manner
use Rattle.go_tree.specs.declared.event.Declaration.{Declaration}
use Rattle.go_tree.specs.declared.event.Event.{Event}
use Rattle.go_tree.specs.declared.event.Event.TheVariants as event
use Rattle.go_tree.specs.Contexts.{file_context}
use Rattle.go_tree.specs.Declarations.{Found, found_in, found_from, found, is_function, is_reused, may_be_reused, is_new, new_among}
use Rattle.go_tree.specs.Events.{events}
use Rattle.go_tree.specs.Imports.{imports_fmt}
use Rattle.go_tree.specs.Units.{Unit, word, is_blank, bytes_at}
use Rattle.go_scopes_events.specs.Orders.{EachDeclared, IsOuter, LocalsFollow, begins_function}
use Rattle.go_scopes_events.proofs.Public.{derives_laid}
use Rattle.go_heads_added.specs.Added.{AreHoused, BlockWithin, IsEarlier, MayStand, housed}
use Rattle.go_heads_added.specs.Appended.{context_behind, AreAdded, HasNames, IsFront, IsParsed, TellsMore, empty_function, unit_of}
use Rattle.go_heads_added.proofs.Blocks.{file_in}
use Rattle.go_heads_added.proofs.Longer.{told_is, file_earlier, tells_more}

-- ---- blocks

block_told : (k n : ℕ) (ts : TokenList) (es : List Event) → EachDeclared (λ d. BlockWithin n d.block) es → AllByRecursion (IsEarlier k n) (found_in k ts es)
block_told k n ts [] h = tt
block_told k n ts (event.Declaration d ∷ es) h = (record { block = λ e. h.0 }, block_told k n ts es h.1)
block_told k n ts (event.Use u ∷ es) h = block_told k n ts es h
block_told k n ts (event.Import p ∷ es) h = block_told k n ts es h
block_told k n ts (event.Member m g i ∷ es) h = block_told k n ts es h
block_told k n ts (event.Bodiless i j ∷ es) h = block_told k n ts es h
block_told k n ts (event.Statement i j ∷ es) h = block_told k n ts es h
block_told k n ts (event.Misplaced i j ∷ es) h = block_told k n ts es h
block_told k n ts (event.SecondDefault i ∷ es) h = block_told k n ts es h

-- files of other numbers
other_told : (k n m : ℕ) (ts : TokenList) (es : List Event) → (m ≡ k → ⊥) → AllByRecursion (IsEarlier k n) (found_in m ts es)
other_told k n m ts [] f = tt
other_told k n m ts (event.Declaration d ∷ es) f = (record { block = λ e. absurd (f (eqb-true m k e)) }, other_told k n m ts es f)
other_told k n m ts (event.Use u ∷ es) f = other_told k n m ts es f
other_told k n m ts (event.Import p ∷ es) f = other_told k n m ts es f
other_told k n m ts (event.Member x g i ∷ es) f = other_told k n m ts es f
other_told k n m ts (event.Bodiless i j ∷ es) f = other_told k n m ts es f
other_told k n m ts (event.Statement i j ∷ es) f = other_told k n m ts es f
other_told k n m ts (event.Misplaced i j ∷ es) f = other_told k n m ts es f
other_told k n m ts (event.SecondDefault i ∷ es) f = other_told k n m ts es f

all_append : (P : Found → Type 0) (xs ys : List Found) → AllByRecursion P xs → AllByRecursion P ys → AllByRecursion P (xs ++ ys)
all_append P [] ys h g = g
all_append P (x ∷ xs) ys h g = (h.0, all_append P xs ys h.1 g)

files_before : (k n m : ℕ) (us : List Unit) → m + length us ≤ k → AllByRecursion (IsEarlier k n) (found_from m us)
files_before k n m [] l = tt
files_before k n m (u ∷ us) l =
    all_append (IsEarlier k n) (found_in m u.tokens u.events) (found_from (suc m) us) (other_told k n m u.tokens u.events (λ e. absurd (omega (arith, l, e)))) (files_before k n (suc m) us (omega (arith, l)))

files_behind : (k n m : ℕ) (us : List Unit) → k < m → AllByRecursion (IsEarlier k n) (found_from m us)
files_behind k n m [] l = tt
files_behind k n m (u ∷ us) l =
    all_append (IsEarlier k n) (found_in m u.tokens u.events) (found_from (suc m) us) (other_told k n m u.tokens u.events (λ e. absurd (omega (arith, l, e)))) (files_behind k n (suc m) us (omega (arith, l)))

-- ---- locals

all_housed : (ds : List Found) → AreHoused true ds
all_housed [] = tt
all_housed (d ∷ ds) = (stands d.it.block, subst (λ b. AreHoused b ds) (sym (stays d.it.block d.it.entity)) (all_housed ds))
  where
    stands : (b : Block) → MayStand true b
    stands block.Package = tt
    stands (block.Local i) = refl

    or_true : (c : Bool) → c || true ≡ true
    or_true true = refl
    or_true false = refl

    stays : (b : Block) (e : Entity) → housed true b e ≡ true
    stays block.Package e = or_true (is_function e)
    stays (block.Local i) e = refl

any_housed : (b : Bool) (ds : List Found) → AreHoused false ds → AreHoused b ds
any_housed true ds h = all_housed ds
any_housed false ds h = h

declared_new : (all : List Found) (d : Found) → is_blank d.name ≡ false → d.it.manner ≡ manner.Declared → is_new all d ≡ true
declared_new all d b m = ap (λ y. not y && not (may_be_reused d.it.manner && is_reused d all)) b ∙ ap (λ (y : Manner). not (may_be_reused y && is_reused d all)) m

-- A function begins there, or none does.
abbrev BeginsOr : Declaration → Type 0
BeginsOr d = ((begins_function d.block d.entity d.manner ≡ true) × (is_function d.entity ≡ true) × (d.manner ≡ manner.Declared)) ⊎ (begins_function d.block d.entity d.manner ≡ false)

function_or : (d : Declaration) → IsOuter d.block → BeginsOr d
function_or d o = by d.block d.entity d.manner o
  where
    by : (x : Block) (e : Entity) (m : Manner) → IsOuter x → ((begins_function x e m ≡ true) × (is_function e ≡ true) × (m ≡ manner.Declared)) ⊎ (begins_function x e m ≡ false)
    by block.Package entity.Function manner.Declared q = inl (refl, refl, refl)
    by block.Package entity.Function manner.Defined q = inr refl
    by block.Package entity.Function manner.Ranged q = inr refl
    by block.Package entity.Constant m q = inr refl
    by block.Package entity.Type m q = inr refl
    by block.Package entity.Variable m q = inr refl
    by block.Package entity.Parameter m q = inr refl
    by (block.Local i) e m q = absurd q

abbrev pub LocalsFollowAll : Type 0
LocalsFollowAll = (ts : List TokenKind) (t : Tree) → IsFile ts t → LocalsFollow false (events (file_context (last t)) t)

module _ (all : List Found) where
  -- a declaration of the package block, in front of housed ones
  outer_housed : (d : Found) (ds : List Found) → IsOuter d.it.block → AreHoused false (new_among all ds) → AreHoused false (new_among all (d ∷ ds))
  outer_housed d ds o h = by (is_new all d)
    where
      stands : (x : Block) → IsOuter x → MayStand false x
      stands block.Package q = tt
      stands (block.Local i) q = absurd q

      by : (b : Bool) → AreHoused false (if b then d ∷ new_among all ds else new_among all ds)
      by true = (stands d.it.block o, any_housed (housed false d.it.block d.it.entity) (new_among all ds) h)
      by false = h

  -- a function
  function_housed : (d : Found) (ds : List Found) → IsOuter d.it.block → is_function d.it.entity ≡ true → is_new all d ≡ true → AreHoused false (new_among all (d ∷ ds))
  function_housed d ds o f e =
      subst (λ b. AreHoused false (if b then d ∷ new_among all ds else new_among all ds)) (sym e)
      (stands d.it.block o, subst (λ b. AreHoused b (new_among all ds)) (sym (houses d.it.block o)) (all_housed (new_among all ds)))
    where
      stands : (x : Block) → IsOuter x → MayStand false x
      stands block.Package q = tt
      stands (block.Local i) q = absurd q

      houses : (x : Block) → IsOuter x → housed false x d.it.entity ≡ true
      houses block.Package q = ap (λ b. b || false) f
      houses (block.Local i) q = absurd q

  one_housed : (d : Found) (ds : List Found) → IsOuter d.it.block → (is_function d.it.entity ≡ true → is_blank d.name ≡ false) → BeginsOr d.it → (begins_function d.it.block d.it.entity d.it.manner ≡ false → AreHoused false (new_among all ds))
      → AreHoused false (new_among all (d ∷ ds))
  one_housed d ds o f (inl z) g = function_housed d ds o z.1 (declared_new all d (f z.1) z.2)
  one_housed d ds o f (inr z) g = outer_housed d ds o (g z)

  follow_housed : (n : ℕ) (ts : TokenList) (es : List Event) (rest : List Found) → LocalsFollow false es → EachDeclared (λ d. is_function d.entity ≡ true → is_blank (word ts d.name) ≡ false) es
      → AreHoused false (new_among all rest) → AreHoused false (new_among all (found_in n ts es ++ rest))
  follow_housed n ts [] rest l f h = h
  follow_housed n ts (event.Declaration d ∷ es) rest l f h =
      one_housed (record { file = n; name = word ts d.name; place = bytes_at n ts d.name; it = d }) (found_in n ts es ++ rest) l.0 f.0 (function_or d l.0)
      (λ q. follow_housed n ts es rest (subst (λ b. LocalsFollow b es) q l.1) f.1 h)
  follow_housed n ts (event.Use u ∷ es) rest l f h = follow_housed n ts es rest l f h
  follow_housed n ts (event.Import p ∷ es) rest l f h = follow_housed n ts es rest l f h
  follow_housed n ts (event.Member m g i ∷ es) rest l f h = follow_housed n ts es rest l f h
  follow_housed n ts (event.Bodiless i j ∷ es) rest l f h = follow_housed n ts es rest l f h
  follow_housed n ts (event.Statement i j ∷ es) rest l f h = follow_housed n ts es rest l f h
  follow_housed n ts (event.Misplaced i j ∷ es) rest l f h = follow_housed n ts es rest l f h
  follow_housed n ts (event.SecondDefault i ∷ es) rest l f h = follow_housed n ts es rest l f h

  -- whole files, in front of others
  files_housed : LocalsFollowAll → (n : ℕ) (us : List Unit) (rest : List Found) → AllByRecursion IsParsed us → AreHoused false (new_among all rest) → AreHoused false (new_among all (found_from n us ++ rest))
  files_housed follow n [] rest q h = h
  files_housed follow n (u ∷ us) rest q h =
      subst (λ ds. AreHoused false (new_among all ds)) (sym (append_assoc (found_in n u.tokens u.events) (found_from (suc n) us) rest))
      (follow_housed n u.tokens u.events (found_from (suc n) us ++ rest) (subst (LocalsFollow false) (sym q.0.told) (follow q.0.kinds q.0.tree q.0.is)) q.0.names (files_housed follow (suc n) us rest q.1 h))

-- ---- a package

module _ (follow : LocalsFollowAll) (k j end x y u v : ℕ) (a b : TokenList) (ts us : List TokenKind) (ps : Trees) (s : Tree) (before behind : List Unit) where
  abbrev d : Tree
  d = empty_function x y s u v

  abbrev t : Tree
  t = node kind.File 0 j ps

  abbrev old : List Unit
  old = before ++ unit_of a t ∷ behind

  abbrev new : List Unit
  new = before ++ unit_of b (with_declaration t d end) ∷ behind

  pub are_added : length before ≡ k → AllByRecursion IsParsed before → AllByRecursion IsParsed behind → IsFile ts t → HasNames (unit_of a t) → IsFront j a b → Derives us category.Declaration d → j ≤ x → is_blank (word b (suc x)) ≡ false
      → imports_fmt b (events (file_context end) (with_declaration t d end)) ≡ imports_fmt a (events (file_context j) t) → AreAdded k j (word b (suc x)) old new
  are_added place first later file names front h l blank imports =
      let more : TellsMore k j (word b (suc x)) (unit_of a t) (unit_of b (with_declaration t d end)) = tells_more k j 0 j end x y u v a b us ps s front h l in
      let own : AreHoused false (new_among (found old) (found_in k a (events (file_context j) t) ++ [])) =
      follow_housed (found old) k a (events (file_context j) t) [] (follow ts t file) names tt in
      record {
        added = record { before = before; a = unit_of a t; b = unit_of b (with_declaration t d end); behind = behind; was = refl; is = refl; place = place; longer = more.longer };
        lies = record {
          earlier = file_earlier ts t j file refl;
          later = more.later;
          front_blocks = all_append (IsEarlier k j) (found_from 0 before) (found_in k a (events (file_context j) t)) (files_before k j 0 before (omega (arith, place)))
              (block_told k j a (events (file_context j) t) (file_in j t (derives_laid ts t category.File file.derives) (omega arith)));
          rest_blocks = files_behind k j (suc k) behind (omega arith);
          front_housed = files_housed (found old) follow 0 before (found_in k a (events (file_context j) t)) first (subst (λ ds. AreHoused false (new_among (found old) ds)) (append-nil (found_in k a (events (file_context j) t))) own);
          rest_housed = subst (λ ds. AreHoused false (new_among (found old) ds)) (append-nil (found_from (suc k) behind)) (files_housed (found old) follow (suc k) behind [] later tt);
          imports = imports;
          named = blank;
        };
      }

  -- it is this package
  pub added_here : length before ≡ k → AllByRecursion IsParsed before → AllByRecursion IsParsed behind → IsFile ts t → HasNames (unit_of a t) → IsFront j a b → Derives us category.Declaration d → j ≤ x → is_blank (word b (suc x)) ≡ false
      → imports_fmt b (events (file_context end) (with_declaration t d end)) ≡ imports_fmt a (events (file_context j) t)
      → (m : AreAdded k j (word b (suc x)) old new) × (m.added.a ≡ unit_of a t) × (m.added.b ≡ unit_of b (with_declaration t d end)) × (m.added.longer.added ≡ events (context_behind end ps d) d)
  unfolding are_added
  added_here place first later file names front h l blank imports =
      (are_added place first later file names front h l blank imports, refl, refl, told_is k j 0 j end x y u v a b us ps s front h l)
