-- A file with calls has one derivation.
use Rattle.std.proofs.Common.{◌≡◌, ℕ, zero, suc, ◌+◌, ◌-◌, ◌<◌, ◌≤◌, ◌⊎◌, inl, inr, Bool, true, false, not, ◌==◌, List, [], ◌∷◌, ◌++◌, append-nil, length, map, Option, Some, None, refl, sym, ap, ◌∙◌, subst, arith}
use Rattle.std.specs.Prelude.{slice_get}
use Rattle.std.specs.Str.{encode_utf8_all}
use Rattle.std.specs.List.{list_all}
use Rattle.std.proofs.lemmas.List.{length-append}
use Rattle.std.proofs.lemmas.Str.{encodes-append}
use Rattle.go_tokens.specs.declared.token.Token.{Token}
use Rattle.go_tokens.specs.declared.token.TokenKind.{TokenKind}
use Rattle.go_tokens.specs.Editing.{new_text}
use Rattle.go_tokens.specs.Encoding.{IsText, are_allowed, is_plain}
use Rattle.go_tokens.specs.Lexing.{Lexes, join, width}
use Rattle.go_tokens.specs.Replacing.{is_at_line_end}
use Rattle.go_tokens.specs.Tokens.{AreOrdered, span_of, kinds}
use Rattle.go_tokens.proofs.Public.{and_both, both, tokens_ordered}
use Rattle.go_grammar.specs.declared.kind.Category.{Category}
use Rattle.go_grammar.specs.declared.kind.Category.TheVariants as category
use Rattle.go_grammar.specs.Grammar.{Derives}
use Rattle.go_grammar.specs.Trees.{Tree, node, Trees, none, more, skip, first, kind_of, last, depth, depths, onto, weight}
use Rattle.go_grammar.proofs.Public.{unique}
use Rattle.go_rewriting.specs.Places.{carry, carries, Patch, keep, put, inside, Ascending, changed, ranges, become, with_declaration}
use Rattle.go_rewriting.specs.Rewriting.{Rewrite, IsRange, TextsFit, changes, edits, settled, sites, sites_alone, move, new_tree, extended, AddedFits, Rewriting, IsWellFormed, HasTail, HasTexts, HasNewTokens, HasNewTree, before}
use Rattle.go_rewriting.specs.Sites.{Local, items, Site, insert, patch_of}
use Rattle.go_rewriting.proofs.Public.{derives_kept, first_carry, last_carry, soft_same}
use Rattle.go_print_laws.specs.Calls.{call_trees}
use Rattle.go_function_headers.specs.Functions.{IsWholeDeclaration}
use Rattle.go_function_headers.proofs.Public.{carry_depth}
use Rattle.extract_files.specs.Files.{called_text, Window, CalledFilesAreRewritten, call_sites, rewriting_of}
use Rattle.extract_files.specs.Levels.{IsFileTree, CalledFilesHaveOneTree, FilesWithoutTreesAreDeep, FunctionsMayBeAppended}
use Rattle.extract_files.proofs.Appended.{appended, file_level}
use Rattle.extract_files.proofs.Files.{tail_plain}
use Rattle.extract_files.proofs.Templates.{plain_join, scalars_join}
use Rattle.extract_files.proofs.Moves.{moved_start, moved_end}
use Rattle.extract_files.proofs.Numbers.{earlier, get_right}

-- ---- the ranges lie one behind the other

inside_some : {A : Type 0} (xs : List A) (n : ℕ) (x : A) → slice_get xs n ≡ Some x → n < length xs
inside_some [] n x e = cc
inside_some (y ∷ xs) zero x e = omega arith
inside_some (y ∷ xs) (suc n) x e = omega (arith, inside_some xs n x e)

-- the token in front of a number ends at a place or before
record Passed (ts : List Token) (i at : ℕ) : Type 0 where
  token : Token
  some : 0 < i
  is : slice_get ts (i - 1) ≡ Some token
  written : token.span.start < token.span.end
  ends : token.span.end ≤ at

later : (n : ℕ) (ts : List Token) (i at from upto start end : ℕ) → AreOrdered 0 (map span_of ts) n → Passed ts i at → IsRange ts from upto start end → at ≤ start → i ≤ from
later n ts i at from upto start end o p r le = elim (three from i) [
  | inl lt ↦ absurd (elim (two from (i - 1) (omega (arith, lt))) [
    | inl same ↦
        let one : Some r.first ≡ Some p.token = sym r.has_first ∙ ap (slice_get ts) same ∙ p.is in
        let t : r.first ≡ p.token = cc in
        let s : r.first.span.start ≡ p.token.span.start = ap (λ (t : Token). t.span.start) t in
        omega (arith, s, r.begins, p.written, p.ends, le)
    | inr less ↦ omega (arith, earlier 0 n ts from (i - 1) r.first p.token o less r.has_first p.is, r.begins, r.first_written, p.written, p.ends, le)
  ])
  | inr ge ↦ ge
]
  where
    three : (a b : ℕ) → (a < b) ⊎ (b ≤ a)
    three a b = grind arith

    two : (a b : ℕ) → a ≤ b → (a ≡ b) ⊎ (a < b)
    two a b le = grind arith

module _ (n file : ℕ) (ts : List Token) (o : AreOrdered 0 (map span_of ts) n) (tail : List ℕ) where
  ascends : (rs : List Rewrite) (rest : List ℕ) (i at : ℕ) → (i ≡ 0) ⊎ Passed ts i at → TextsFit file ts at rs rest tail → Ascending i (ranges (changes rs)) (length ts)
  ascends [] rest i at (inl z) f = omega (arith, z)
  ascends [] rest i at (inr p) f = let lt = inside_some ts (i - 1) p.token p.is in omega (arith, lt, p.some)
  ascends (r ∷ rs) rest i at p f =
      let g = f.0.range in (
        from_is i at p r.from r.upto (at + width r.kept) (at + width r.kept + width r.old) g (omega arith),
        g.order,
        ascends rs rest r.upto (at + width r.kept + width r.old) (inr (record { token = g.last; some = omega (arith, g.order); is = g.has_last; written = g.last_written; ends = omega (arith, g.ends) })) f.1,
      )
    where
      from_is : (i at : ℕ) → (i ≡ 0) ⊎ Passed ts i at → (from upto start end : ℕ) → IsRange ts from upto start end → at ≤ start → i ≤ from
      from_is i at (inl z) from upto start end r le = omega (arith, z)
      from_is i at (inr p) from upto start end r le = later n ts i at from upto start end o p r le

length-kinds : (ts : List Token) → length (kinds ts) ≡ length ts
length-kinds [] = refl
length-kinds (t ∷ ts) = ap suc (length-kinds ts)

-- ---- the top of the tree stays

abbrev stays : Patch → Bool
stays keep = true
stays (put s) = false
stays (inside qs) = true

insert_stays : (path : List ℕ) (f n : ℕ) (new : Trees) (q : Patch) → stays (insert path (items f n new) q) ≡ true
insert_stays [] f n new q = refl
insert_stays (p ∷ path) f n new q = refl

-- what becomes of the first site
abbrev first_change : List Site → Local
first_change [] = items 0 0 none
first_change (s ∷ ss) = s.change

sites_stay : (m : ℕ → ℕ) (rs : List Rewrite) (xs : List Window) → sites_alone rs ≡ call_sites xs → stays (patch_of (sites m rs)) ≡ true
sites_stay m [] xs e = refl
sites_stay m (r ∷ rs) [] e = cc
sites_stay m (r ∷ rs) (x ∷ xs) e =
    let change : r.change ≡ items x.front x.others (call_trees 0 x.call) = ap first_change e in
    subst (λ c. stays (insert r.path (settled (λ k. m r.from + k) c) (patch_of (sites m rs))) ≡ true) (sym change) (insert_stays r.path x.front x.others (carries (λ k. m r.from + k) (call_trees 0 x.call)) (patch_of (sites m rs)))

first_stays : (m : ℕ → ℕ) (t : Tree) (q : Patch) → stays q ≡ true → first (become m t q) ≡ m (first t)
first_stays m (node k a b ps) keep d = refl
first_stays m (node k a b ps) (put s) d = cc
first_stays m (node k a b ps) (inside qs) d = refl

last_stays : (m : ℕ → ℕ) (t : Tree) (q : Patch) → stays q ≡ true → last (become m t q) ≡ m (last t)
last_stays m (node k a b ps) keep d = refl
last_stays m (node k a b ps) (put s) d = cc
last_stays m (node k a b ps) (inside qs) d = refl

-- ---- the appended declaration

get_left : {A : Type 0} (xs ys : List A) (n : ℕ) → n < length xs → slice_get (xs ++ ys) n ≡ slice_get xs n
get_left [] ys n lt = absurd (omega (arith, lt))
get_left (x ∷ xs) ys zero lt = refl
get_left (x ∷ xs) ys (suc n) lt = get_left xs ys n (omega (arith, lt))

with_declared : (ks ws : List TokenKind) (t d : Tree) → IsFileTree ks t → IsWholeDeclaration ws d → IsFileTree (ks ++ ws) (with_declaration t (carry (λ k. length ks + k) d) (length ks + length ws))
with_declared ks ws t d h a =
    let far : length (ks ++ ws) ≡ length ks + length ws = length-append ks ws in
    let there : Derives (ks ++ ws) category.Declaration (carry (λ k. length ks + k) d) =
    derives_kept ws (ks ++ ws) (λ k. length ks + k) d category.Declaration (λ n lo hi. record { same = get_right ks ws n; next = omega arith }) (soft_same ws (ks ++ ws) (λ k. length ks + k) (last d) (get_right ks ws (last d))) a.derives in
    let from : first (carry (λ k. length ks + k) d) ≡ length ks = first_carry (λ k. length ks + k) d ∙ (omega (arith, a.begins)) in
    let to : last (carry (λ k. length ks + k) d) ≡ length ks + last d = last_carry (λ k. length ks + k) d in
    subst (λ n. IsFileTree (ks ++ ws) (with_declaration t (carry (λ k. length ks + k) d) n)) far
    (appended ks (ks ++ ws) t (carry (λ k. length ks + k) d) h (λ n lt. get_left ks ws n lt) there from (ap (slice_get (ks ++ ws)) to ∙ get_right ks ws (last d) ∙ a.closed) (omega (arith, to, far, a.all)))

with_added : (ks ws : List TokenKind) (t : Tree) (added : Option Tree) → IsFileTree ks t → AddedFits ws added → IsFileTree (ks ++ ws) (extended (length ks) ws added t)
with_added ks ws t None h a = subst (λ us. IsFileTree us t) (sym (append-nil ks) ∙ ap (λ us. ks ++ us) (sym a)) h
with_added ks ws t (Some d) h a = with_declared ks ws t d h (record { derives = a.derives; begins = a.begins; closed = a.closed; all = a.all })

-- ---- one derivation

pub one_tree : CalledFilesAreRewritten → ((c : Category) (w : Rewriting) → IsWellFormed c w → HasTail w → HasNewTokens w × HasNewTree c w) → CalledFilesHaveOneTree
one_tree law rewritten w h t before behind o b =
    let r = law w h in
    let n = rewritten category.File (rewriting_of w r.ranges) r.well_formed h.appended in
    let l = h.lexes in
    let ordered : AreOrdered 0 (map span_of w.tokens) (0 + width (join l.pieces)) = subst (λ xs. AreOrdered 0 (map span_of xs) (0 + width (join l.pieces))) (sym l.spelled) (tokens_ordered w.file 0 l.pieces true) in
    let rs = changes r.ranges in
    let ascend : Ascending 0 (ranges (changes r.ranges)) (length (kinds w.tokens)) = subst (Ascending 0 (ranges (changes r.ranges))) (sym (length-kinds w.tokens)) (ascends (0 + width (join l.pieces)) w.file w.tokens ordered w.tail r.ranges w.rest 0 0 (inl refl) r.well_formed.texts) in
    let still : stays (patch_of (sites (move r.ranges) r.ranges)) ≡ true = sites_stay (move r.ranges) r.ranges w.windows r.sites in
    let tree : IsFileTree (changed (changes r.ranges) (kinds w.tokens)) (new_tree r.ranges w.tree) = record {
      derives = n.1;
      begins = first_stays (move r.ranges) w.tree (patch_of (sites (move r.ranges) r.ranges)) still ∙ ap (move r.ranges) t.begins ∙ moved_start (changes r.ranges) 0 (length (kinds w.tokens)) ascend;
      ends = last_stays (move r.ranges) w.tree (patch_of (sites (move r.ranges) r.ranges)) still ∙ ap (move r.ranges) t.ends ∙ moved_end (changes r.ranges) 0 (kinds w.tokens) ascend;
    } in
    let whole = subst (λ ks. IsFileTree ks (extended (length (changed (changes r.ranges) (kinds w.tokens))) (kinds w.tail_tokens) w.added (new_tree r.ranges w.tree))) (sym n.0.kinds_are)
    (with_added (changed (changes r.ranges) (kinds w.tokens)) (kinds w.tail_tokens) (new_tree r.ranges w.tree) w.added tree h.added_fits) in
    record {
      tokens = n.0.tokens;
      comments = n.0.comments;
      lexing = record { text = new_text (edits r.ranges w.rest) w.tail; is_text = subst (λ x. IsText x (encode_utf8_all (called_text w.name w.windows (w.rest ++ w.tail)))) (sym r.new) (r.is_text before behind o b); lexes = n.0.lexes };
      tree = extended (length (changed (changes r.ranges) (kinds w.tokens))) (kinds w.tail_tokens) w.added (new_tree r.ranges w.tree);
      is_tree = whole;
      only = λ u i. unique (kinds n.0.tokens) category.File u _ i.derives whole.derives (i.begins ∙ sym whole.begins) (i.ends ∙ sym whole.ends);
    }

pub deep_files : FilesWithoutTreesAreDeep
deep_files file bytes h lacks = elim (two (depth h.tree)) [
  | inl low ↦ absurd (lacks h.tree (record { derives = h.is_tree.derives; begins = h.is_tree.begins; ends = h.is_tree.ends; shallow = low }))
  | inr deep ↦ deep
]
  where
    two : (n : ℕ) → (n ≤ 101) ⊎ (101 < n)
    two n = grind arith

-- ---- a function behind a file

text_joined : (xs ys a b : List ℕ) → IsText xs a → IsText ys b → is_at_line_end ys ≡ true → IsText (xs ++ ys) (a ++ b)
text_joined xs ys a b h k l = record { scalars = scalars_join xs ys h.scalars k.scalars; encoded = encodes-append xs ys ∙ (λ j. h.encoded j ++ k.encoded j); allowed = allowed xs h.allowed }
  where
    allowed : (zs : List ℕ) → are_allowed zs ≡ true → are_allowed (zs ++ ys) ≡ true
    allowed [] e = k.allowed
    allowed (z ∷ zs) e = let c = both (not (z == 0)) (list_all is_plain zs) e in and_both (not (z == 0)) (list_all is_plain (zs ++ ys)) c.0 (plain_join zs ys c.1 (tail_plain ys l k.allowed))

onto_above : (ps : Trees) (d : Tree) → depth d ≤ depths (onto ps (more d none))
onto_above none d = omega arith
onto_above (more p ps) d = let r = onto_above ps d in omega (arith, r)
onto_above (skip ps) d = onto_above ps d

declared_above : (t d : Tree) (n : ℕ) → weight (kind_of t) ≡ 1 → suc (depth d) ≤ depth (with_declaration t d n)
declared_above (node k a b ps) d n w = let r = onto_above ps d in omega (arith, r, w)

pub function_appended : ((w : Rewriting) → Lexes w.file (before w) w.tokens w.comments → HasTexts w → HasTail w → HasNewTokens w) → FunctionsMayBeAppended
function_appended law file front h behind ws s r =
    let l = h.lexing in
    let n = law (record { file = file; tokens = h.tokens; comments = h.comments; tree = h.tree; ranges = []; rest = l.text; tail = r.text; tail_tokens = r.tokens }) l.lexes tt r.tail in
    let same : kinds n.tokens ≡ kinds h.tokens ++ ws = n.kinds_are ∙ ap (λ us. kinds h.tokens ++ us) r.kinds_are in
    let whole = subst (λ us. IsFileTree us (with_declaration h.tree (carry (λ k. length (kinds h.tokens) + k) r.tree) (length (kinds h.tokens) + length ws))) (sym same) (with_declared (kinds h.tokens) ws h.tree r.tree h.is_tree r.whole) in
    let above = declared_above h.tree (carry (λ k. length (kinds h.tokens) + k) r.tree) (length (kinds h.tokens) + length ws) (file_level (kinds h.tokens) h.tree h.is_tree) in
    record {
      one_tree = record {
        tokens = n.tokens;
        comments = n.comments;
        lexing = record { text = l.text ++ r.text; is_text = text_joined l.text r.text front behind l.is_text r.is_text r.tail.begins; lexes = n.lexes };
        tree = with_declaration h.tree (carry (λ k. length (kinds h.tokens) + k) r.tree) (length (kinds h.tokens) + length ws);
        is_tree = whole;
        only = λ u i. unique (kinds n.tokens) category.File u _ i.derives whole.derives (i.begins ∙ sym whole.begins) (i.ends ∙ sym whole.ends);
      };
      above = omega (arith, above, carry_depth (λ k. length (kinds h.tokens) + k) r.tree, r.above);
    }
