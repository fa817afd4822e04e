-- Windows of a package whose functions have places: their tokens, and their bytes, are among those of their function.
use Rattle.std.proofs.Common.{◌≡◌, ◌∙◌, ℕ, zero, suc, ◌+◌, ◌-◌, ◌<◌, ◌≤◌, List, [], ◌∷◌, ◌++◌, drop, take, length, map, Option, Some, None, slice_get, refl, sym, ap, subst, arith, inl, inr}
use Rattle.std.specs.Prelude.{◌⊎◌}
use Rattle.std.specs.List.{AllByRecursion}
use Rattle.std.specs.Option.{option_map, option_to_list}
use Rattle.std.proofs.lemmas.Bool.{cases_lt}
use Rattle.go_tokens.specs.declared.token.Token.{Token}
use Rattle.go_tokens.specs.Tokens.{AreOrdered, span_of}
use Rattle.go_tree.specs.declared.object.Declared.{Declared}
use Rattle.go_tree.specs.File.{FileTree}
use Rattle.go_tree.specs.Units.{end_in, start_in}
use Rattle.go_tree.specs.Units as units
use Rattle.go_tree.specs.Uses.{functions_among}
use Rattle.go_types.specs.Trees.{TypeTree}
use Rattle.go_typed.specs.declared.window.Window.{Window}
use Rattle.go_typed.specs.Contents.{Content, FuncContent}
use Rattle.go_typed.specs.Lists.{statement_lists, statements_of}
use Rattle.go_typed.specs.Trees.{Typed, last_of}
use Rattle.go_scopes.specs.Numbering.{spot_of}
use Rattle.clone_window.specs.Spans.{last_from}
use Rattle.clone_window.specs.Windows.{row_of, statements_in, window_statements}
use Rattle.param_choose.specs.Members.{Member, first_in, first_token, member_over, members_of, template_of}
use Rattle.escape_check.specs.Places.{file_in, file_of, sources_of}
use Rattle.extract_texts.specs.Texts.{window_bytes}
use Rattle.go_function_places.specs.Places.{FunctionPlace, HavePlaces, HaveStatements, ListsStandIn, StandInRow, name_spot}
use Rattle.go_function_places.specs.Places as places
use Rattle.extract_rewrite.proofs.Runs.{before, forward, shown}

pub same_some : {A : Type 0} (x y : A) → Some x ≡ Some y → x ≡ y
same_some x y e = cc

all_at : {A : Type 0} (P : A → Type 0) (xs : List A) (k : ℕ) (x : A) → AllByRecursion P xs → slice_get xs k ≡ Some x → P x
all_at P [] k x h e = absurd cc
all_at P (y ∷ xs) zero x h e = subst P (same_some y x e) h.0
all_at P (y ∷ xs) (suc k) x h e = all_at P xs k x h.1 e

-- ---- the statements of a window

-- They have no tokens, or some of the first n.
abbrev pub IsRun : ℕ → ℕ → ℕ → Type 0
IsRun n from upto = ((from ≡ 0) × (upto ≡ 0)) ⊎ ((from < upto) × (upto ≤ n))

module _ {T : Type 0} (n : ℕ) where
  abbrev Stand : List (Typed T) → Type 0
  Stand xs = StandInRow 0 n xs

  taken : (k i : ℕ) (xs : List (Typed T)) → StandInRow i n xs → StandInRow i n (take k xs)
  taken zero i xs h = tt
  taken (suc k) i [] h = tt
  taken (suc k) i (x ∷ xs) h = (h.0, h.1, h.2, taken k (last_of x) xs h.3)

  from_start : (i : ℕ) (xs : List (Typed T)) → StandInRow i n xs → Stand xs
  from_start i [] h = tt
  from_start i (x ∷ xs) h = (omega arith, h.1, h.2, h.3)

  dropped : (k i : ℕ) (xs : List (Typed T)) → StandInRow i n xs → Stand (drop k xs)
  dropped zero i xs h = from_start i xs h
  dropped (suc k) i [] h = tt
  dropped (suc k) i (x ∷ xs) h = dropped k (last_of x) xs h.3

  reaches : (j : ℕ) (xs : List (Typed T)) → j ≤ n → StandInRow j n xs → (j ≤ last_from j (row_of xs)) × (last_from j (row_of xs) ≤ n)
  reaches j [] u h = (omega arith, u)
  reaches j (x ∷ xs) u h = let r = reaches (last_of x) xs h.2 h.3 in (omega (arith, h.0, h.1, r.0), r.1)

  row_run : (xs : List (Typed T)) → Stand xs → IsRun n (first_in (row_of xs)) (last_from 0 (row_of xs))
  row_run [] h = inl (refl, refl)
  row_run (x ∷ xs) h = let r = reaches (last_of x) xs h.2 h.3 in inr (omega (arith, h.1, r.0), r.1)

  list_stands : (ls : List (Typed T)) (k : ℕ) (o : Option (Typed T)) → slice_get ls k ≡ o → AllByRecursion (λ l. Stand (statements_of l)) ls → Stand (statements_in o)
  list_stands ls k None e h = tt
  list_stands ls k (Some l) e h = all_at (λ l. Stand (statements_of l)) ls k l h e

  window_run : (root : Typed T) (w : Window) → ListsStandIn n root → IsRun n (first_in (window_statements root w)) (last_from 0 (window_statements root w))
  window_run root w h =
      let ls = statement_lists root in
      let all = statements_in (slice_get ls w.list) in
      row_run (take w.count (drop w.first all)) (taken w.count 0 (drop w.first all) (dropped w.first 0 all (list_stands ls w.list (slice_get ls w.list) refl h)))

-- ---- functions by their numbers

record HasPlace (ps : List FunctionPlace) (k : ℕ) (f : FuncContent) : Type 0 where
  place : FunctionPlace
  there : slice_get ps k ≡ Some place
  lists : ListsStandIn (place.last - place.first) f.tree

function_place : (ps : List FunctionPlace) (fs : List FuncContent) (k : ℕ) (f : FuncContent) → HaveStatements ps fs → slice_get fs k ≡ Some f → HasPlace ps k f
function_place [] [] k f h e = absurd cc
function_place [] (g ∷ fs) k f h e = absurd h
function_place (p ∷ ps) [] k f h e = absurd h
function_place (p ∷ ps) (g ∷ fs) zero f h e = record { place = p; there = refl; lists = subst (λ (x : FuncContent). ListsStandIn (p.last - p.first) x.tree) (same_some g f e) h.0 }
function_place (p ∷ ps) (g ∷ fs) (suc k) f h e = let r = function_place ps fs k f h.1 e in record { place = r.place; there = r.there; lists = r.lists }

declared_there : (ps : List FunctionPlace) (ds : List Declared) (k : ℕ) (p : FunctionPlace) → map name_spot ps ≡ map spot_of ds → slice_get ps k ≡ Some p → (d : Declared) × (slice_get ds k ≡ Some d) × (spot_of d ≡ name_spot p)
declared_there [] ds k p e h = absurd cc
declared_there (q ∷ ps) [] k p e h = absurd cc
declared_there (q ∷ ps) (d ∷ ds) zero p e h = let one : name_spot q ≡ spot_of d = cc in (d, refl, sym one ∙ ap name_spot (same_some q p h))
declared_there (q ∷ ps) (d ∷ ds) (suc k) p e h = let more : map name_spot ps ≡ map spot_of ds = cc in declared_there ps ds k p more h

-- ---- members

-- A member's function has a place, and the member's tokens are among its own.
pub record IsPlaced (c : Content) (ps : List FunctionPlace) (m : Member TypeTree) : Type 0 where
  pub place : FunctionPlace
  pub there : slice_get ps m.window.func ≡ Some place
  pub stands : places.StandsIn c.files place
  pub file : file_of (sources_of c) m ≡ place.file
  pub first : m.first ≡ place.first
  pub tokens : IsRun (place.last - place.first) m.from m.upto

module _ (c : Content) (h : HavePlaces c) where
  abbrev Placed : Member TypeTree → Type 0
  Placed m = IsPlaced c h.places m

  is_placed : (w : Window) (f : FuncContent) → slice_get c.functions w.func ≡ Some f → Placed (member_over c.uses w f.locals f.tokens f.tree)
  is_placed w f e =
      let r = function_place h.places c.functions w.func f h.statements e in
      let p = r.place in
      let d = declared_there h.places (functions_among c.uses.package_level) w.func p h.named r.there in
      let name : d.0.name ≡ suc p.first = ap (λ s. s.1) d.2 in
      let first : d.0.name - 1 ≡ p.first = omega (arith, name) in
      record {
        place = p;
        there = r.there;
        stands = all_at (places.StandsIn c.files) h.places w.func p h.stand r.there;
        file = ap file_in d.1 ∙ ap (λ s. s.0) d.2;
        first = ap first_token d.1 ∙ first;
        tokens = window_run (p.last - p.first) f.tree w r.lists;
      }

  one_placed : (w : Window) (o : Option FuncContent) (ms : List (Member TypeTree)) → slice_get c.functions w.func ≡ o → AllByRecursion Placed ms
      → AllByRecursion Placed (option_to_list (option_map (λ f. member_over c.uses w f.locals f.tokens f.tree) o) ++ ms)
  one_placed w None ms e k = k
  one_placed w (Some f) ms e k = (is_placed w f e, k)

  pub all_placed : (ws : List Window) → AllByRecursion Placed (members_of c ws)
  all_placed [] = tt
  all_placed (w ∷ ws) = one_placed w (slice_get c.functions w.func) (members_of c ws) refl (all_placed ws)

  one_template : (w : Window) (o : Option FuncContent) (t : Member TypeTree) → slice_get c.functions w.func ≡ o → option_map (λ f. member_over c.uses w f.locals f.tokens f.tree) o ≡ Some t → Placed t
  one_template w None t e k = absurd cc
  one_template w (Some f) t e k = subst Placed (same_some (member_over c.uses w f.locals f.tokens f.tree) t k) (is_placed w f e)

  pub template_placed : (ws : List Window) (t : Member TypeTree) → template_of c ws ≡ Some t → Placed t
  template_placed [] t e = absurd cc
  template_placed (w ∷ ws) t e = one_template w (slice_get c.functions w.func) t refl e

-- ---- tokens of a text, in order

order_ends : (ts : List Token) (at end : ℕ) → AreOrdered at (map span_of ts) end → at ≤ end
order_ends [] at end h = h
order_ends (t ∷ ts) at end h = let rest = order_ends ts t.span.end end h.2 in omega (arith, h.0, h.1, rest)

ends_within : (ts : List Token) (at end : ℕ) → AreOrdered at (map span_of ts) end → (j : ℕ) → j < length ts → end_in (slice_get ts j) ≤ end
ends_within [] at end h j lt = absurd (omega (arith, lt))
ends_within (t ∷ ts) at end h zero lt = order_ends ts t.span.end end h.2
ends_within (t ∷ ts) at end h (suc j) lt = ends_within ts t.span.end end h.2 j (omega (arith, lt))

module _ (ts : List Token) (end : ℕ) (h : AreOrdered 0 (map span_of ts) end) where
  starts_rise : (i j : ℕ) → i ≤ j → j < length ts → start_in (slice_get ts i) ≤ start_in (slice_get ts j)
  starts_rise i j u lt = elim (cases_lt i j) [
    | inl less ↦ (let a = before ts 0 end h i j less lt in let b = forward ts 0 end h i (omega (arith, u, lt)) in omega (arith, a, b))
    | inr more ↦ (let same : i ≡ j = omega (arith, u, more) in omega (arith, ap (λ k. start_in (slice_get ts k)) same))
  ]

  ends_rise : (i j : ℕ) → i ≤ j → j < length ts → end_in (slice_get ts i) ≤ end_in (slice_get ts j)
  ends_rise i j u lt = elim (cases_lt i j) [
    | inl less ↦ (let a = before ts 0 end h i j less lt in let b = forward ts 0 end h j lt in omega (arith, a, b))
    | inr more ↦ (let same : i ≡ j = omega (arith, u, more) in omega (arith, ap (λ k. end_in (slice_get ts k)) same))
  ]

-- ---- the bytes of a run of tokens among others

-- where the tokens of a function begin and end in their file
abbrev pub begin_of : FileTree → FunctionPlace → ℕ
begin_of f p = start_in (slice_get f.tokens.tokens p.first)

abbrev pub end_of : FileTree → FunctionPlace → ℕ
end_of f p = end_in (slice_get f.tokens.tokens (p.last - 1))

pub record LieIn (f : FileTree) (p : FunctionPlace) (b : units.Place) : Type 0 where
  pub low : begin_of f p ≤ b.start
  pub order : b.start ≤ b.end
  pub high : b.end ≤ end_of f p

module _ (f : FileTree) (p : FunctionPlace) (h : AreOrdered 0 (map span_of f.tokens.tokens) (length f.tokens.text)) (behind : 0 < p.first) (some : p.first < p.last) (within : p.last ≤ length f.tokens.tokens) where
  nothing_ends : (n : ℕ) → (units.bytes_of n f.tokens p.first p.first).end ≤ begin_of f p
  nothing_ends n =
      let a = before f.tokens.tokens 0 (length f.tokens.text) h (p.first - 1) p.first (omega (arith, behind)) (omega (arith, some, within)) in
      omega (arith, a)

  nothing_lies : (n : ℕ) → LieIn f p (units.bytes_of n f.tokens p.first p.first)
  nothing_lies n =
      let ts = f.tokens.tokens in
      let a = nothing_ends n in
      let b = forward ts 0 (length f.tokens.text) h p.first (omega (arith, some, within)) in
      let c = ends_rise ts (length f.tokens.text) h p.first (p.last - 1) (omega (arith, some)) (omega (arith, some, within)) in
      record { low = omega arith; order = omega arith; high = omega (arith, a, b, c) }

  run_lies : (n a b : ℕ) → p.first ≤ a → a < b → b ≤ p.last → LieIn f p (units.bytes_of n f.tokens a b)
  run_lies n a b u v w =
      let ts = f.tokens.tokens in
      let low = starts_rise ts (length f.tokens.text) h p.first a u (omega (arith, v, w, within)) in
      let own = forward ts 0 (length f.tokens.text) h a (omega (arith, v, w, within)) in
      let first = ends_rise ts (length f.tokens.text) h a (p.last - 1) (omega (arith, v, w)) (omega (arith, some, within)) in
      let last = ends_rise ts (length f.tokens.text) h (b - 1) (p.last - 1) (omega (arith, v, w)) (omega (arith, some, within)) in
      record { low = low; order = omega arith; high = omega (arith, own, first, last) }

-- ---- the bytes of members

module _ (c : Content) (ps : List FunctionPlace) (m : Member TypeTree) (q : IsPlaced c ps m) where
  pub file_there : slice_get c.files (file_of (sources_of c) m) ≡ Some q.stands.file
  file_there = ap (slice_get c.files) q.file ∙ q.stands.there

  pub bytes_shown : window_bytes (sources_of c) m ≡ units.bytes_of (file_of (sources_of c) m) q.stands.file.tokens (m.first + m.from) (m.first + m.upto)
  bytes_shown = shown (sources_of c) q.stands.file m file_there

  -- a window without tokens
  nothing_shown : m.from ≡ 0 → m.upto ≡ 0 → window_bytes (sources_of c) m ≡ units.bytes_of (file_of (sources_of c) m) q.stands.file.tokens q.place.first q.place.first
  nothing_shown a b =
      let first : m.first ≡ q.place.first = q.first in
      let from : m.first + m.from ≡ q.place.first = omega (arith, first, a) in
      let upto : m.first + m.upto ≡ q.place.first = omega (arith, first, b) in
      bytes_shown ∙ (λ j. units.bytes_of (file_of (sources_of c) m) q.stands.file.tokens (from j) (upto j))

  pub nothing_stands : m.from ≡ 0 → m.upto ≡ 0 → (window_bytes (sources_of c) m).end ≤ begin_of q.stands.file q.place
  nothing_stands a b =
      subst (λ (x : units.Place). x.end ≤ begin_of q.stands.file q.place) (sym (nothing_shown a b))
      (nothing_ends q.stands.file q.place q.stands.ordered q.stands.behind q.stands.some q.stands.within (file_of (sources_of c) m))

  lies_by : IsRun (q.place.last - q.place.first) m.from m.upto → LieIn q.stands.file q.place (window_bytes (sources_of c) m)
  lies_by (inl e) =
      subst (LieIn q.stands.file q.place) (sym (nothing_shown e.0 e.1)) (nothing_lies q.stands.file q.place q.stands.ordered q.stands.behind q.stands.some q.stands.within (file_of (sources_of c) m))
  lies_by (inr e) =
      let first : m.first ≡ q.place.first = q.first in
      let some = q.stands.some in
      subst (LieIn q.stands.file q.place) (sym bytes_shown)
      (run_lies q.stands.file q.place q.stands.ordered q.stands.behind q.stands.some q.stands.within (file_of (sources_of c) m) (m.first + m.from) (m.first + m.upto)
      (omega (arith, first)) (omega (arith, e.0)) (omega (arith, first, some, e.1)))

  pub lies : LieIn q.stands.file q.place (window_bytes (sources_of c) m)
  lies = lies_by q.tokens

  pub file_is : (window_bytes (sources_of c) m).file ≡ q.place.file
  file_is = ap (λ (x : units.Place). x.file) bytes_shown ∙ q.file

  pub in_text : (window_bytes (sources_of c) m).end ≤ length q.stands.file.tokens.text
  in_text =
      let l = q.stands.file.tokens in
      let some = q.stands.some in
      let within = q.stands.within in
      let a = ends_within l.tokens 0 (length l.text) q.stands.ordered (q.place.last - 1) (omega (arith, some, within)) in
      omega (arith, a, lies.high)
