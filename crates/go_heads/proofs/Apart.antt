-- What is declared outside a function means nothing at its tokens but through the package.
use Rattle.std.proofs.Common.{◌≡◌, ◌∙◌, ℕ, suc, ◌+◌, ◌<◌, ◌≤◌, ◌⊎◌, inl, inr, Bool, true, false, List, [], ◌∷◌, ◌++◌, Option, Some, None, refl, sym, ap, subst, arith}
use Rattle.std.specs.Prelude.{if◌then◌else◌, ◌&&◌, nat_eq, nat_le, nat_lt}
use Rattle.std.proofs.lemmas.Bool.Decides.{nat_tests}
use Rattle.std.proofs.lemmas.Bool.{lt-ltb}
use Rattle.go_tokens.specs.Tokens.{TokenList, kinds}
use Rattle.go_tokens.specs.Spellings.{same_text}
use Rattle.go_grammar.specs.declared.kind.Kind.TheVariants as kind
use Rattle.go_grammar.specs.declared.kind.Category.TheVariants as category
use Rattle.go_grammar.specs.Trees.{Tree, node, Trees, kind_of, first, last, parts}
use Rattle.go_rewriting.proofs.Public.{tree_order, derives_ordered}
use Rattle.go_tree.specs.declared.context.Block.{Block}
use Rattle.go_tree.specs.declared.context.Block.TheVariants as block
use Rattle.go_tree.specs.declared.context.Entity.TheVariants as entity
use Rattle.go_tree.specs.declared.context.Manner.TheVariants as manner
use Rattle.go_tree.specs.declared.context.Scope.{Scope}
use Rattle.go_tree.specs.declared.event.Declaration.{Declaration}
use Rattle.go_tree.specs.declared.event.Event.{Event}
use Rattle.go_tree.specs.declared.event.Event.TheVariants as event
use Rattle.go_tree.specs.Contexts.{is_there, is_package, file_context}
use Rattle.go_tree.specs.Declarations.{Found, found_in}
use Rattle.go_tree.specs.Events.{function_events, begin, events, events_of}
use Rattle.go_tree.specs.Extents.{covers, extent_by, extent_of}
use Rattle.go_tree.specs.Imports.{imports_fmt}
use Rattle.go_tree.specs.Lists.{is_function}
use Rattle.go_tree.specs.Meanings.{Meaning, Numbers, own_number, numbers_behind, numbered, imported_meaning, imported_from}
use Rattle.go_tree.specs.Objects.{is_declared_at, own_object, object_at, token_object}
use Rattle.go_tree.specs.Units as names
use Rattle.go_tree.specs.Units.{word}
use Rattle.go_tree.specs.Views.{part_at}
use Rattle.go_scopes_events.specs.Orders.{EachDeclared, Nests, ScopesNest, IsFollowed}
use Rattle.go_scopes_events.specs.Scopes.{is_local, locals_of, inner, over, inmost}
use Rattle.go_scopes_events.proofs.Public.{true_false, derives_layered, file_nested, file_follows, derives_laid}
use Rattle.go_heads.specs.Heads.{File, IsRead, in_bodies, without_body}
use Rattle.go_heads.proofs.Functions.{Framed, framed}
use Rattle.go_heads.proofs.Outlines.{function_kind}
use Rattle.go_heads.proofs.Declared.{each_both}
use Rattle.go_heads.specs.Told.{file_events}
use Rattle.go_heads.proofs.Fresh as fresh
use Rattle.go_heads.proofs.Fresh.{Other}
use Rattle.go_heads.proofs.Names.{NamesIn, Stands, each_left, each_right}
use Rattle.go_heads.proofs.Meanings.{Every, IsAway, uncovered}
use Rattle.go_heads.proofs.Scopes.{IsBodily, locals_bodily, behind_name}

-- ---- declarations apart

-- a name that isn't declared from the token a on and before the token z of the file n, nor in scope there if it is a local
pub record IsApart (n a z : ℕ) (d : Found) : Type 0 where
  pub name : nat_eq d.file n ≡ true → (d.it.name < a) ⊎ (z ≤ d.it.name)
  pub scope : nat_eq d.file n ≡ true → is_package d.it.block ≡ false → (d.it.scope.to ≤ a) ⊎ (z ≤ d.it.scope.from)

pub record IsAside (n t : ℕ) (m : Meaning) : Type 0 where
  pub away : IsAway n t m.extent
  pub undeclared : is_declared_at n t m.source ≡ false

second_false : (b c : Bool) → (b ≡ true → c ≡ false) → (b && c) ≡ false
second_false true c h = h refl
second_false false c h = refl

third_false : (b c d : Bool) → (b ≡ true → (c && d) ≡ false) → (b && c && d) ≡ false
third_false true c d h = h refl
third_false false c d h = refl

not_there : (a t z x : ℕ) → a ≤ t → t < z → (x < a) ⊎ (z ≤ x) → nat_eq x t ≡ false
not_there a t z x lo hi (inl lt) = grind (arith, nat_tests)
not_there a t z x lo hi (inr le) = grind (arith, nat_tests)

not_covered : (a t z from to : ℕ) → a ≤ t → t < z → (to ≤ a) ⊎ (z ≤ from) → (nat_le from t && nat_lt t to) ≡ false
not_covered a t z from to lo hi (inl le) = second_false (nat_le from t) (nat_lt t to) (λ e. grind (arith, nat_tests))
not_covered a t z from to lo hi (inr le) = ap (λ b. b && nat_lt t to) (let e : nat_le from t ≡ false = grind (arith, nat_tests) in e)

module _ (n a z t : ℕ) (lo : a ≤ t) (hi : t < z) where
  away_by : (k : ℕ) (s : Scope) (b : Block) → (nat_eq k n ≡ true → is_package b ≡ false → (s.to ≤ a) ⊎ (z ≤ s.from)) → IsAway n t (extent_by k s b)
  away_by k s block.Package h e = absurd (true_false false e refl)
  away_by k s (block.Local i) h e = third_false (nat_eq k n) (nat_le s.from t) (nat_lt t s.to) (λ f. not_covered a t z s.from s.to lo hi (h f refl))

  aside : (k : Numbers) (d : Found) → IsApart n a z d → IsAside n t (record { name = d.name; extent = extent_of d; object = own_number k d.it.block; source = Some d })
  aside k d h = record {
    away = away_by d.file d.it.scope d.it.block h.scope;
    undeclared = second_false (nat_eq d.file n) (nat_eq d.it.name t) (λ f. not_there a t z d.it.name lo hi (h.name f));
  }

  pub numbered_aside : (k : Numbers) (ds : List Found) → Every (IsApart n a z) ds → Every (IsAside n t) (numbered k ds)
  numbered_aside k [] h = tt
  numbered_aside k (d ∷ ds) h = (aside k d h.0, numbered_aside (numbers_behind k d.it.entity d.it.block) ds h.1)

pub imported_aside : (n t k : ℕ) (us : List names.Unit) → Every (IsAside n t) (imported_from k us)
imported_aside n t k [] = tt
imported_aside n t k (u ∷ us) = by (imports_fmt u.tokens u.events) (imported_aside n t (suc k) us)
  where
    by : (b : Bool) → Every (IsAside n t) (imported_from (suc k) us) → Every (IsAside n t) (if b then imported_meaning k ∷ imported_from (suc k) us else imported_from (suc k) us)
    by true g = (record { away = λ e. absurd (true_false false e refl); undeclared = refl }, g)
    by false g = g

module _ (n t : ℕ) (w : List ℕ) where
  pub inmost_past : (o : Option Meaning) (xs ys : List Meaning) → Every (IsAside n t) xs → inmost n t w o (locals_of n (xs ++ ys)) ≡ inmost n t w o (locals_of n ys)
  inmost_past o [] ys h = refl
  inmost_past o (m ∷ xs) ys h = by (is_local n m.extent) refl (inmost_past o xs ys h.1)
    where
      by : (b : Bool) → is_local n m.extent ≡ b → inmost n t w o (locals_of n (xs ++ ys)) ≡ inmost n t w o (locals_of n ys)
          → inmost n t w o (if b then m ∷ locals_of n (xs ++ ys) else locals_of n (xs ++ ys)) ≡ inmost n t w o (locals_of n ys)
      by true e g = ap (λ x. inmost n t w x (locals_of n (xs ++ ys))) (uncovered (same_text m.name w) (covers m.extent n t) (inner o m) o (h.0.away e)) ∙ g
      by false e g = g

  pub inmost_before : (xs ys : List Meaning) (o : Option Meaning) → Every (IsAside n t) ys → inmost n t w o (locals_of n (xs ++ ys)) ≡ inmost n t w o (locals_of n xs)
  inmost_before [] ys o h = ap (λ ms. inmost n t w o (locals_of n ms)) (sym (nothing_behind ys)) ∙ inmost_past o ys [] h
    where
      nothing_behind : (ms : List Meaning) → ms ++ [] ≡ ms
      nothing_behind [] = refl
      nothing_behind (m ∷ ms) = ap (λ ns. m ∷ ns) (nothing_behind ms)
  inmost_before (m ∷ xs) ys o h = by (is_local n m.extent) (λ p. inmost_before xs ys p h)
    where
      by : (b : Bool) → ((p : Option Meaning) → inmost n t w p (locals_of n (xs ++ ys)) ≡ inmost n t w p (locals_of n xs))
          → inmost n t w o (if b then m ∷ locals_of n (xs ++ ys) else locals_of n (xs ++ ys)) ≡ inmost n t w o (if b then m ∷ locals_of n xs else locals_of n xs)
      by true g = g (over n t w o m)
      by false g = g o

  pub own_past : (all xs ys : List Meaning) → Every (IsAside n t) xs → own_object n t w all (xs ++ ys) ≡ own_object n t w all ys
  own_past all [] ys h = refl
  own_past all (m ∷ xs) ys h = ap (λ b. if b then Some m.object else own_object n t w all (xs ++ ys)) h.0.undeclared ∙ own_past all xs ys h.1

  pub own_none : (all xs : List Meaning) → Every (IsAside n t) xs → own_object n t w all xs ≡ object_at all n t w
  own_none all [] h = refl
  own_none all (m ∷ xs) h = ap (λ b. if b then Some m.object else own_object n t w all xs) h.0.undeclared ∙ own_none all xs h.1

-- ---- events apart

nat_other : (a t z x : ℕ) → a ≤ t → t < z → (x < a) ⊎ (z ≤ x) → nat_eq x t ≡ false
nat_other a t z x lo hi h = not_there a t z x lo hi h

module _ (ms : List Meaning) (n : ℕ) (ts : TokenList) (t : ℕ) where
  pub token_past : (lo hi : ℕ) (es fs : List Event) → hi ≤ t → NamesIn lo hi es → token_object ms n ts t (es ++ fs) ≡ token_object ms n ts t fs
  token_past lo hi [] fs le h = refl
  token_past lo hi (event.Declaration d ∷ es) fs le h =
      ap (λ b. if b then own_object n t (word ts t) ms ms else token_object ms n ts t (es ++ fs)) (nat_other t t (suc t) d.name (omega arith) (omega arith) (inl (omega (arith, h.1, le)))) ∙ token_past lo hi es fs le h.2
  token_past lo hi (event.Use u ∷ es) fs le h =
      ap (λ b. if b then object_at ms n t (word ts t) else token_object ms n ts t (es ++ fs)) (nat_other t t (suc t) u.name (omega arith) (omega arith) (inl (omega (arith, h.1, le)))) ∙ token_past lo hi es fs le h.2
  token_past lo hi (e ∷ es) fs le h = token_past lo hi es fs le h

  token_none : (lo hi : ℕ) (es : List Event) → t < lo → NamesIn lo hi es → token_object ms n ts t es ≡ None
  token_none lo hi [] lt h = refl
  token_none lo hi (event.Declaration d ∷ es) lt h =
      ap (λ b. if b then own_object n t (word ts t) ms ms else token_object ms n ts t es) (nat_other t t (suc t) d.name (omega arith) (omega arith) (inr (omega (arith, h.0, lt)))) ∙ token_none lo hi es lt h.2
  token_none lo hi (event.Use u ∷ es) lt h =
      ap (λ b. if b then object_at ms n t (word ts t) else token_object ms n ts t es) (nat_other t t (suc t) u.name (omega arith) (omega arith) (inr (omega (arith, h.0, lt)))) ∙ token_none lo hi es lt h.2
  token_none lo hi (e ∷ es) lt h = token_none lo hi es lt h

  pub token_before : (lo hi : ℕ) (es fs : List Event) → t < lo → NamesIn lo hi fs → token_object ms n ts t (es ++ fs) ≡ token_object ms n ts t es
  token_before lo hi [] fs lt h = token_none lo hi fs lt h
  token_before lo hi (event.Declaration d ∷ es) fs lt h = ap (λ o. if nat_eq d.name t then own_object n t (word ts t) ms ms else o) (token_before lo hi es fs lt h)
  token_before lo hi (event.Use u ∷ es) fs lt h = ap (λ o. if nat_eq u.name t then object_at ms n t (word ts t) else o) (token_before lo hi es fs lt h)
  token_before lo hi (e ∷ es) fs lt h = token_before lo hi es fs lt h

-- ---- what stands in front of a function, and behind it

pub other_apart : (n a z : ℕ) (ds : List Found) → fresh.Every (Other n) ds → Every (IsApart n a z) ds
other_apart n a z [] h = tt
other_apart n a z (d ∷ ds) h = (record { name = λ e. absurd (differs n d.file h.0 e); scope = λ e. absurd (differs n d.file h.0 e) }, other_apart n a z ds h.1)
  where
    differs : (n k : ℕ) → nat_eq n k ≡ false → nat_eq k n ≡ true → ⊥
    differs n k e f = let same : k ≡ n = grind (arith, nat_tests) in true_false (nat_eq n k) (let g : nat_eq n k ≡ true = grind (arith, nat_tests) in g) e

found_each : (Q : Declaration → Type 0) (R : Found → Type 0) (n : ℕ) (l : TokenList) (es : List Event) → ((d : Found) → Q d.it → R d) → EachDeclared Q es → Every R (found_in n l es)
found_each Q R n l [] f h = tt
found_each Q R n l (event.Declaration d ∷ es) f h = (f _ h.0, found_each Q R n l es f h.1)
found_each Q R n l (e ∷ es) f h = found_each Q R n l es f h

pub each_named : (lo hi : ℕ) (es : List Event) → NamesIn lo hi es → EachDeclared (λ d. (lo ≤ d.name) × (d.name < hi)) es
each_named lo hi [] h = tt
each_named lo hi (event.Declaration d ∷ es) h = ((h.0, h.1), each_named lo hi es h.2)
each_named lo hi (event.Use u ∷ es) h = each_named lo hi es h.2
each_named lo hi (e ∷ es) h = each_named lo hi es h

-- the scope of each declaration in front of another
each_at : (Q : Declaration → Type 0) (xs : List Event) (g : Declaration) (ys : List Event) → EachDeclared Q (xs ++ (event.Declaration g ∷ ys)) → Q g
each_at Q [] g ys h = h.0
each_at Q (event.Declaration d ∷ xs) g ys h = each_at Q xs g ys h.1
each_at Q (e ∷ xs) g ys h = each_at Q xs g ys h

nested_front : (xs : List Event) (g : Declaration) (ys : List Event) → ScopesNest (xs ++ (event.Declaration g ∷ ys)) → EachDeclared (λ d. Nests d.scope g.scope) xs
nested_front [] g ys h = tt
nested_front (event.Declaration d ∷ xs) g ys h = (each_at (λ e. Nests d.scope e.scope) xs g ys h.0, nested_front xs g ys h.1)
nested_front (e ∷ xs) g ys h = nested_front xs g ys h

-- what a function tells begins with its declaration
abbrev pub function_it : Tree → Declaration
function_it t = record { name = suc (first t); entity = entity.Function; manner = manner.Declared; block = block.Package; scope = record { from = first t; to = last t }; statement = first t; source = Some (first t); column = 0 }

pub record Begins (t : Tree) (es : List Event) : Type 0 where
  pub others : List Event
  pub whole : es ≡ event.Declaration (function_it t) ∷ others

function_begins : (i j : ℕ) (ps : Trees) (e : ℕ) → i < j → Begins (node kind.FunctionDeclaration i j ps) (events (file_context e) (node kind.FunctionDeclaration i j ps))
function_begins i j ps e lt =
    let t : Tree = node kind.FunctionDeclaration i j ps in
    let inside : List Event = events_of (begin (file_context e) kind.FunctionDeclaration) kind.FunctionDeclaration i j ps 0 ps in
    subst (λ b. Begins t ((if b then function_events i j (is_there (part_at ps 1)) else []) ++ inside)) (sym (lt-ltb i j lt)) (by (is_there (part_at ps 1)))
  where
    by : (b : Bool) → Begins (node kind.FunctionDeclaration i j ps) (function_events i j b ++ events_of (begin (file_context e) kind.FunctionDeclaration) kind.FunctionDeclaration i j ps 0 ps)
    by true = record { others = events_of (begin (file_context e) kind.FunctionDeclaration) kind.FunctionDeclaration i j ps 0 ps; whole = refl }
    by false = record { others = event.Bodiless i j ∷ events_of (begin (file_context e) kind.FunctionDeclaration) kind.FunctionDeclaration i j ps 0 ps; whole = refl }

pub begins : (t : Tree) (e : ℕ) → is_function (kind_of t) ≡ true → first t < last t → Begins t (events (file_context e) t)
begins (node k i j ps) e f lt =
    let same : k ≡ kind.FunctionDeclaration = function_kind k f in
    subst (λ x. Begins (node x i j ps) (events (file_context e) (node x i j ps))) (sym same) (function_begins i j ps e lt)

module _ (n : ℕ) (f : File) (read : IsRead f) (t : Tree) (stands : Stands (kinds f.tokens.tokens) (in_bodies (parts f.tree)) (last f.tree) (file_events f) t) where
  abbrev p : ℕ → Bool
  p = in_bodies (parts f.tree)

  pub in_order : first t < last t
  in_order = tree_order t (derives_ordered (kinds f.tokens.tokens) t category.Declaration stands.sits.derives)

  -- the first token of a function is in no body
  pub clear : p (first t) ≡ false
  clear =
      let frame : Framed p t = framed (kinds f.tokens.tokens) p t stands.function stands.sits in
      let lt : first (without_body t) < last (without_body t) = tree_order (without_body t) frame.order in
      frame.clear (first t) (omega (arith, frame.begins)) (omega (arith, frame.begins, lt))

  pub declared_first : Begins t (events (file_context (last f.tree)) t)
  declared_first = begins t (last f.tree) stands.function in_order

  abbrev told : List Event
  told = events (file_context (last f.tree)) t

  nested : EachDeclared (λ d. Nests d.scope (function_it t).scope) stands.before
  nested =
      nested_front stands.before (function_it t) (declared_first.others ++ stands.behind)
      (subst ScopesNest (stands.whole ∙ ap (λ es. stands.before ++ (es ++ stands.behind)) declared_first.whole)
      (file_nested f.tree (derives_layered (kinds f.tokens.tokens) f.tree category.File read.tree.derives) (derives_laid (kinds f.tokens.tokens) f.tree category.File read.tree.derives)).nest)

  bodily : EachDeclared (IsBodily p) stands.before
  bodily = each_left (IsBodily p) stands.before (told ++ stands.behind) (subst (EachDeclared (IsBodily p)) stands.whole (locals_bodily (kinds f.tokens.tokens) f.tree read.tree))

  ends_first : (d : Declaration) → Nests d.scope (function_it t).scope → IsBodily p d → is_package d.block ≡ false → d.scope.to ≤ first t
  ends_first d (inl le) b e = le
  ends_first d (inr g) b e = absurd (true_false (p (first t)) (b e (first t) g.0 (omega (arith, in_order, g.1))) clear)

  ended : EachDeclared (λ d. is_package d.block ≡ false → d.scope.to ≤ first t) stands.before
  ended = each_both (λ d. Nests d.scope (function_it t).scope) (IsBodily p) (λ d. is_package d.block ≡ false → d.scope.to ≤ first t) stands.before ends_first nested bodily

  pub front_apart : Every (IsApart n (first t) (last t)) (found_in n f.tokens stands.before)
  front_apart =
      found_each (λ d. (d.name < first t) × (is_package d.block ≡ false → d.scope.to ≤ first t)) (IsApart n (first t) (last t)) n f.tokens stands.before
      (λ d h. record { name = λ e. inl h.0; scope = λ e l. inl (h.1 l) })
      (each_both (λ d. (0 ≤ d.name) × (d.name < first t)) (λ d. is_package d.block ≡ false → d.scope.to ≤ first t) (λ d. (d.name < first t) × (is_package d.block ≡ false → d.scope.to ≤ first t)) stands.before
      (λ d g h. (g.1, h)) (each_named 0 (first t) stands.before stands.names_before) ended)

  followed : EachDeclared IsFollowed stands.behind
  followed =
      each_right IsFollowed told stands.behind (each_right IsFollowed stands.before (told ++ stands.behind)
      (subst (EachDeclared IsFollowed) stands.whole
      (file_follows f.tree (derives_layered (kinds f.tokens.tokens) f.tree category.File read.tree.derives) (derives_laid (kinds f.tokens.tokens) f.tree category.File read.tree.derives))))

  pub back_apart : Every (IsApart n (first t) (last t)) (found_in n f.tokens stands.behind)
  back_apart =
      found_each (λ d. (last t ≤ d.name) × (is_package d.block ≡ false → last t ≤ d.scope.from)) (IsApart n (first t) (last t)) n f.tokens stands.behind
      (λ d h. record { name = λ e. inr h.0; scope = λ e l. inr (h.1 l) })
      (each_both (λ d. (last t ≤ d.name) × (d.name < last f.tree)) IsFollowed (λ d. (last t ≤ d.name) × (is_package d.block ≡ false → last t ≤ d.scope.from)) stands.behind
      (λ d g h. (g.0, λ l. let le : d.name ≤ d.scope.from = behind_name d.block d.entity d.name d.scope.from h.0 l in omega (arith, g.0, le)))
      (each_named (last t) (last f.tree) stands.behind stands.names_behind) followed)
