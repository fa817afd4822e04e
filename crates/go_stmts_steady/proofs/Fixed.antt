-- What is known and doesn't change where numbers change places that aren't known so far.
use Rattle.std.proofs.Common.{◌≡◌, ◌∙◌, ℕ, zero, suc, ◌<◌, ◌≤◌, ◌-◌, Bool, true, false, [], ◌∷◌, length, drop, map, Option, Some, None, refl, sym, ap, arith}
use Rattle.std.specs.Prelude.{if◌then◌else◌, nat_lt, slice_get}
use Rattle.std.specs.Option.{option_map}
use Rattle.go_grammar.specs.declared.kind.Kind.{Kind}
use Rattle.go_grammar.specs.declared.kind.Kind.TheVariants as kind
use Rattle.go_grammar.specs.declared.kind.Sort.TheVariants as declaring
use Rattle.go_grammar.specs.Grammar.{count}
use Rattle.go_grammar.specs.Trees.{Trees}
use Rattle.go_tree.specs.declared.object.Object.{Object}
use Rattle.go_types.specs.Trees.{TypeTree, declared}
use Rattle.go_types.specs.Relations.{Rights, HasRight, Underlying, itself, through}
use Rattle.go_types_relations.specs.Questions.{flat, entry}
use Rattle.go_types_relations.specs.Renaming.{renamed, AreRenamed}
use Rattle.go_types_relations.specs.Tests.{underlying_of}
use Rattle.go_types_relations.proofs.Public.{told_underlying, underlying_told}
use Rattle.go_typed.specs.declared.form.Form.{Form}
use Rattle.go_typed.specs.declared.form.Form.TheVariants as form
use Rattle.go_typed.specs.Trees.{typed, Typeds, list_of, all_mapped}
use Rattle.go_typed.specs.Trees as sort
use Rattle.go_exprs_rules.specs.declared.family.OpenKind.{OpenKind}
use Rattle.go_exprs_rules.specs.declared.family.OpenKind.TheVariants as untyped_kind
use Rattle.go_exprs_rules.specs.Scopes.{Needed, Hint, value, several, type_place, free}
use Rattle.go_exprs_rules.specs.Settling.{Part}
use Rattle.go_exprs_rules.specs.Sorts.{Stands, own_type, open_kind, default_type, retyped}
use Rattle.go_exprs_rules.specs.Tables.{Parts}
use Rattle.go_stmts_defs.specs.Assigning.{type_or_default}
use Rattle.go_stmts_defs.specs.Frames.{Frame, Locals, placed}
use Rattle.go_stmts_defs.specs.Laying.{told, alone_or_value, behind_names, specification_told, first_then, loop_form, loop_header}
use Rattle.go_stmts_defs.specs.Reading.{opened, tag_in, tag_of, last_of_list, tag_behind}
use Rattle.go_stmts_defs.specs.Rules.{is_open_number, is_first_number, first_type, target_there, operand_takes}
use Rattle.go_renumbering.specs.Frames.{locals_renamed, has_place, RenamedFrames}
use Rattle.go_renumbering.specs.Renumbered.{stands_renamed, part_renamed, hint_renamed}
use Rattle.go_stmts_variables.specs.Steady.{type_taken, number_type, range_type}
use Rattle.go_stmts_steady.specs.Ordered.{KnowsBelow}
use Rattle.go_stmts_steady.proofs.Local.{with_types}
use Rattle.go_stmts_steady.proofs.Swapping.{swap, one_to_one, swap_low, swap_first, swap_from, avoid, avoid_stays, less_is, no_less, maybe_stays, stands_stay, locals_stay, results_stay}

-- ---- frames

pub record Fixed (name : ℕ → ℕ) (f : Frame) : Type 0 where
  pub rights : AreRenamed name f.around.rights f.around.rights
  pub sorts : (n : Needed) (o : Object) → stands_renamed name (f.around.sorts n o) ≡ f.around.sorts n o
  pub locals : locals_renamed name f.locals ≡ f.locals
  pub tag : stands_renamed name f.tag ≡ f.tag
  pub results : map (renamed name) f.results ≡ f.results

-- the numbers of types without those two
abbrev pub avoiding : ℕ → (ℕ → ℕ) → ℕ → ℕ
avoiding m U n = avoid m (U n)

pub to_renamed : (m : ℕ) (U : ℕ → ℕ) (f : Frame) → Fixed (swap m) f → RenamedFrames (swap m) (with_types (avoiding m U) 0 f) (with_types (avoiding m U) 0 f)
to_renamed m U f c = record {
  one_to_one = one_to_one m;
  rights = c.rights;
  room = λ n. ap (has_place f.around.rights) (avoid_stays m (U n));
  iota = refl;
  texts = λ i. refl;
  characters = λ i. refl;
  objects = λ i. refl;
  sorts = λ n o. sym (c.sorts n o);
  referents = λ n. refl;
  needed = refl;
  limits = refl;
  locals = sym c.locals;
  types = λ n. sym (avoid_stays m (U n));
  source = refl;
  tag = sym c.tag;
  results = sym c.results;
}

pub from_renamed : (m : ℕ) (U : ℕ → ℕ) (f : Frame) → RenamedFrames (swap m) (with_types (avoiding m U) 0 f) (with_types (avoiding m U) 0 f) → Fixed (swap m) f
from_renamed m U f c = record { rights = c.rights; sorts = λ n o. sym (c.sorts n o); locals = sym c.locals; tag = sym c.tag; results = sym c.results }

pub known_fixed : (k m : ℕ) (f : Frame) → k ≤ m → KnowsBelow k f → Fixed (swap m) f
known_fixed k m f h c = record {
  rights = λ n. by n (nat_lt n k) refl;
  sorts = λ n o. stands_stay m k h (f.around.sorts n o) (c.sorts n o);
  locals = locals_stay m k h f.locals c.locals;
  tag = stands_stay m k h f.tag c.tag;
  results = results_stay m k h f.results c.results;
}
  where
    by : (n : ℕ) (b : Bool) → nat_lt n k ≡ b → entry f.around.rights (swap m n) ≡ option_map (renamed (swap m)) (entry f.around.rights n)
    by n true e = let l = less_is n k e in ap (entry f.around.rights) (swap_low m n (omega (arith, h, l))) ∙ sym (maybe_stays m k h (entry f.around.rights n) (c.rights n l))
    by n false e = let l = no_less n k e in c.none (swap m n) (swap_from m k n h l) ∙ sym (ap (option_map (renamed (swap m))) (c.none n l))

placed_renamed : (name : ℕ → ℕ) (n : ℕ) (x : Stands) (ls : Locals) → locals_renamed name (placed n (Some x) ls) ≡ placed n (Some (stands_renamed name x)) (locals_renamed name ls)
placed_renamed name n x [] = refl
placed_renamed name zero x (l ∷ ls) = refl
placed_renamed name (suc n) x (l ∷ ls) = ap (λ z. option_map (stands_renamed name) l ∷ z) (placed_renamed name n x ls)

pub placed_fixed : (name : ℕ → ℕ) (n : ℕ) (x : Stands) (ls : Locals) → stands_renamed name x ≡ x → locals_renamed name ls ≡ ls → locals_renamed name (placed n (Some x) ls) ≡ placed n (Some x) ls
placed_fixed name n x ls e d = placed_renamed name n x ls ∙ ap (λ z. placed n (Some z) (locals_renamed name ls)) e ∙ ap (placed n (Some x)) d

-- ---- what parts are told, and what tags and targets stand for

module _ (name : ℕ → ℕ) where
  alone_fixed : (ps : Trees) (h : Hint) → hint_renamed name h ≡ h → hint_renamed name (alone_or_value ps h) ≡ alone_or_value ps h
  alone_fixed ps several e = by (nat_lt 1 (count ps))
    where
      by : (b : Bool) → hint_renamed name (if b then value else several) ≡ (if b then value else several)
      by true = refl
      by false = refl
  alone_fixed ps h e = e

  names_fixed : (k : Kind) (h : Hint) → hint_renamed name h ≡ h → hint_renamed name (behind_names k h) ≡ behind_names k h
  names_fixed kind.TypedValues h e = e
  names_fixed kind.Values h e = e
  names_fixed k h e = refl

  specified_fixed : (h : Hint) (xs : Parts) (k : Kind) → hint_renamed name h ≡ h → hint_renamed name (specification_told h xs k) ≡ specification_told h xs k
  specified_fixed h [] k e = refl
  specified_fixed h (x ∷ xs) k e = names_fixed k h e

  then_fixed : (g h : Hint) (xs : Parts) → hint_renamed name g ≡ g → hint_renamed name h ≡ h → hint_renamed name (first_then g h xs) ≡ first_then g h xs
  then_fixed g h [] d e = d
  then_fixed g h (x ∷ xs) d e = e

  pub told_fixed : (n : Kind) (h : Hint) (all : Trees) (xs : Parts) (k : Kind) → hint_renamed name h ≡ h → hint_renamed name (told n h all xs k) ≡ told n h all xs k
  told_fixed (kind.Specification declaring.Type) h all xs k e = refl
  told_fixed (kind.Specification declaring.Variable) h all xs k e = specified_fixed several xs k refl
  told_fixed (kind.Specification declaring.Constant) h all xs k e = specified_fixed value xs k refl
  told_fixed kind.TypedValues h all xs k e = then_fixed type_place h xs refl e
  told_fixed kind.Values h all xs k e = e
  told_fixed kind.ExpressionList h all xs k e = alone_fixed all h e
  told_fixed kind.NameList h all xs k e = refl
  told_fixed kind.NewNames h all xs k e = refl
  told_fixed kind.Targets h all xs k e = refl
  told_fixed kind.Assignment h all xs k e = then_fixed free several xs refl refl
  told_fixed kind.Define h all xs k e = then_fixed free several xs refl refl
  told_fixed kind.ExpressionStatement h all xs k e = refl
  told_fixed kind.Return h all xs k e = refl
  told_fixed n h all xs k e = refl

  abbrev opt : Option Part → Option Part
  opt o = option_map (part_renamed name) o

  abbrev parts : Parts → Parts
  parts xs = map opt xs

  list_renamed : (ps : Typeds TypeTree) → list_of (all_mapped (renamed name) ps) ≡ parts (list_of ps)
  list_renamed sort.none = refl
  list_renamed (sort.more p ps) = ap (λ z. Some (part_renamed name p) ∷ z) (list_renamed ps)
  list_renamed (sort.skip ps) = ap (λ z. None ∷ z) (list_renamed ps)

  own_renamed : (x : Stands) → own_type (stands_renamed name x) ≡ option_map (renamed name) (own_type x)
  own_renamed (sort.Value t) = refl
  own_renamed (sort.Constant t c) = refl
  own_renamed x = refl

  default_renamed : (k : OpenKind) → renamed name (default_type k) ≡ default_type k
  default_renamed untyped_kind.Boolean = refl
  default_renamed untyped_kind.Integer = refl
  default_renamed untyped_kind.Rune = refl
  default_renamed untyped_kind.Text = refl

  retyped_renamed : (t : TypeTree) (x : Stands) → retyped (renamed name t) (stands_renamed name x) ≡ stands_renamed name (retyped t x)
  retyped_renamed t (sort.OpenConstant c) = refl
  retyped_renamed t sort.Unknown = refl
  retyped_renamed t x = refl

  opened_renamed : (o : Option OpenKind) (x : Stands) → opened o (stands_renamed name x) ≡ stands_renamed name (opened o x)
  opened_renamed None x = refl
  opened_renamed (Some k) x = ap (λ t. retyped t (stands_renamed name x)) (sym (default_renamed k)) ∙ retyped_renamed (default_type k) x

  tag_in_renamed : (x : Stands) → tag_in (stands_renamed name x) ≡ stands_renamed name (tag_in x)
  tag_in_renamed (sort.Open u) = opened_renamed (open_kind (sort.Open u)) (sort.Open u)
  tag_in_renamed (sort.OpenConstant c) = opened_renamed (open_kind (sort.OpenConstant c)) (sort.OpenConstant c)
  tag_in_renamed x = refl

  tag_of_renamed : (x : Option Part) → tag_of (opt x) ≡ stands_renamed name (tag_of x)
  tag_of_renamed None = refl
  tag_of_renamed (Some (typed f i j l ps)) = tag_in_renamed l.sort

  last_renamed : (xs : Parts) → last_of_list (parts xs) ≡ opt (last_of_list xs)
  last_renamed [] = refl
  last_renamed (x ∷ []) = refl
  last_renamed (x ∷ y ∷ ys) = last_renamed (y ∷ ys)

  tag_renamed : (x : Part) → tag_behind (Some (part_renamed name x)) ≡ stands_renamed name (tag_behind (Some x))
  tag_renamed (typed (form.Held kind.LateTag) i j l ps) = ap (λ xs. tag_of (last_of_list xs)) (list_renamed ps) ∙ ap tag_of (last_renamed (list_of ps)) ∙ tag_of_renamed (last_of_list (list_of ps))
  tag_renamed (typed (form.Held kind.InitializedTag) i j l ps) = ap (λ xs. tag_of (last_of_list xs)) (list_renamed ps) ∙ ap tag_of (last_renamed (list_of ps)) ∙ tag_of_renamed (last_of_list (list_of ps))
  tag_renamed (typed f i j l ps) = tag_in_renamed l.sort

  -- the tag of a part that stays
  pub tag_fixed : (x : Part) → part_renamed name x ≡ x → stands_renamed name (tag_behind (Some x)) ≡ tag_behind (Some x)
  tag_fixed x e = sym (tag_renamed x) ∙ ap (λ y. tag_behind (Some y)) e

  pub own_fixed : (x : Stands) → stands_renamed name x ≡ x → option_map (renamed name) (own_type x) ≡ own_type x
  own_fixed x e = sym (own_renamed x) ∙ ap own_type e

  -- ---- the type that a number takes

  length_parts : (xs : Parts) → length (parts xs) ≡ length xs
  length_parts [] = refl
  length_parts (x ∷ xs) = ap suc (length_parts xs)

  form_renamed : (x : Part) → loop_form (Some (part_renamed name x)) ≡ loop_form (Some x)
  form_renamed (typed (form.Held kind.Range) i j l ps) = refl
  form_renamed (typed (form.Held kind.AssigningRange) i j l ps) = ap (λ n. form.Range false (n - 1)) (ap length (list_renamed ps) ∙ length_parts (list_of ps))
  form_renamed (typed (form.Held kind.DefiningRange) i j l ps) = ap (λ n. form.Range true (n - 1)) (ap length (list_renamed ps) ∙ length_parts (list_of ps))
  form_renamed (typed (form.Held k) i j l ps) = refl
  form_renamed (typed f i j l ps) = refl

  header_renamed : (x : Part) → loop_header (Some (part_renamed name x)) ≡ parts (loop_header (Some x))
  header_renamed (typed (form.Held kind.ForClause) i j l ps) = ap (λ z. None ∷ z) (list_renamed ps)
  header_renamed (typed (form.Held k) i j l ps) = list_renamed ps
  header_renamed (typed f i j l ps) = refl

  drop_parts : (n : ℕ) (xs : Parts) → drop n (parts xs) ≡ parts (drop n xs)
  drop_parts zero xs = refl
  drop_parts (suc n) [] = refl
  drop_parts (suc n) (x ∷ xs) = drop_parts n xs

  open_renamed : (x : Stands) → is_open_number (stands_renamed name x) ≡ is_open_number x
  open_renamed (sort.OpenConstant c) = refl
  open_renamed x = refl

  first_renamed : (xs : Parts) → is_first_number (parts xs) ≡ is_first_number xs
  first_renamed [] = refl
  first_renamed (None ∷ xs) = refl
  first_renamed (Some (typed f i j l ps) ∷ xs) = open_renamed l.sort

  first_type_renamed : (xs : Parts) → first_type (parts xs) ≡ option_map (renamed name) (first_type xs)
  first_type_renamed [] = refl
  first_type_renamed (None ∷ xs) = refl
  first_type_renamed (Some (typed f i j l ps) ∷ xs) = own_renamed l.sort

  there_renamed : (n : ℕ) (xs : Parts) → target_there n (parts xs) ≡ option_map (renamed name) (target_there n xs)
  there_renamed n xs = by (nat_lt 0 n)
    where
      by : (b : Bool) → (if b then first_type (parts xs) else None) ≡ option_map (renamed name) (if b then first_type xs else None)
      by true = first_type_renamed xs
      by false = refl

  taken_by : (b : Bool) (o : Option TypeTree) → type_taken (if b then type_or_default (option_map (renamed name) o) else type_or_default None) ≡ option_map (renamed name) (type_taken (if b then type_or_default o else type_or_default None))
  taken_by true (Some t) = refl
  taken_by true None = refl
  taken_by false o = refl

  operand_renamed : (n : ℕ) (xs : Parts) → type_taken (operand_takes n (parts xs)) ≡ option_map (renamed name) (type_taken (operand_takes n xs))
  operand_renamed n xs =
      ap (λ b. type_taken (if b then type_or_default (target_there n (parts xs)) else type_or_default None)) (ap is_first_number (drop_parts n xs) ∙ first_renamed (drop n xs))
      ∙ ap (λ o. type_taken (if is_first_number (drop n xs) then type_or_default o else type_or_default None)) (there_renamed n xs)
      ∙ taken_by (is_first_number (drop n xs)) (target_there n xs)

  number_renamed : (f : Form) (xs : Parts) → number_type f (parts xs) ≡ option_map (renamed name) (number_type f xs)
  number_renamed (form.Range d n) xs = operand_renamed n xs
  number_renamed f xs = refl

  pub range_fixed : (x : Part) → part_renamed name x ≡ x → option_map (renamed name) (range_type x) ≡ range_type x
  range_fixed x e =
      sym (number_renamed (loop_form (Some x)) (loop_header (Some x))) ∙ sym (ap (number_type (loop_form (Some x))) (header_renamed x))
      ∙ sym (ap (λ z. number_type z (loop_header (Some (part_renamed name x)))) (form_renamed x)) ∙ ap range_type e

-- ---- types whose numbers are known have the underlying types that they had

never_next : {X : Type 0} (n : ℕ) → declared (suc n) ≡ declared n → X
never_next n e = let same : suc n ≡ n = cc in absurd (omega (arith, same))

known_low : (k n : ℕ) → ((m : ℕ) → k ≤ m → renamed (swap m) (declared n) ≡ declared n) → n < k
known_low k n e = by (nat_lt n k) refl
  where
    by : (b : Bool) → nat_lt n k ≡ b → n < k
    by true l = less_is n k l
    by false l = never_next n (sym (ap declared (swap_first n)) ∙ e n (no_less n k l))

some_same : (x y : TypeTree) → Some x ≡ Some y → x ≡ y
some_same x y e = cc

module _ (k : ℕ) (old new : Rights) (fixed : (m : ℕ) → k ≤ m → AreRenamed (swap m) old old) (agree : (n : ℕ) → n < k → slice_get new n ≡ slice_get old n) where
  abbrev Stays : TypeTree → Type 0
  Stays t = (m : ℕ) → k ≤ m → renamed (swap m) t ≡ t

  right_stays : (n : ℕ) (r : TypeTree) → n < k → HasRight old n r → Stays r
  right_stays n r l h m g =
      let there : entry old n ≡ Some r = ap flat h in
      some_same (renamed (swap m) r) r (sym (ap (option_map (renamed (swap m))) there) ∙ sym (fixed m g n) ∙ ap (entry old) (swap_low m n (omega (arith, l, g))) ∙ there)

  down : (t u : TypeTree) → Stays t → Underlying new t u → Underlying old t u
  down t u s (itself _ e) = itself t e
  down t u s (through n r _ h l) =
      let low = known_low k n s in
      let here : HasRight old n r = sym (agree n low) ∙ h in
      through n r u here (down r u (right_stays n r low here) l)

  up : (t u : TypeTree) → Stays t → Underlying old t u → Underlying new t u
  up t u s (itself _ e) = itself t e
  up t u s (through n r _ h l) =
      let low = known_low k n s in
      through n r u (agree n low ∙ h) (up r u (right_stays n r low h) l)

  pub same_underlying : (t : TypeTree) → Stays t → underlying_of new t ≡ underlying_of old t
  same_underlying t s = by (underlying_of new t) refl (underlying_of old t) refl
    where
      by : (o : Option TypeTree) → underlying_of new t ≡ o → (q : Option TypeTree) → underlying_of old t ≡ q → o ≡ q
      by (Some u) e q d = sym (underlying_told old t u (down t u s (told_underlying new t u e))) ∙ d
      by None e (Some u) d = sym e ∙ underlying_told new t u (up t u s (told_underlying old t u d))
      by None e None d = refl
