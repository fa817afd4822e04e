-- Functions in whose blocks other statements take the place of some.
use Rattle.std.proofs.Common.{◌≡◌, ◌∙◌, ℕ, ◌-◌, Bool, true, false, List, [], ◌∷◌, ◌++◌, map, length, Option, Some, None, refl, sym, ap, subst, slice_get, Ok}
use Rattle.std.specs.Prelude.{◌||◌, not, if◌then◌else◌}
use Rattle.std.specs.Option.{unwrap_or}
use Rattle.go_grammar.specs.declared.kind.Kind.TheVariants as kind
use Rattle.go_grammar.specs.Trees.{Tree, node, Trees, none, more, last}
use Rattle.go_rewriting.specs.Places.{carry}
use Rattle.go_base.specs.declared.fault.FaultCode.TheVariants as code
use Rattle.go_types.specs.Trees.{TypeTree}
use Rattle.go_typed.specs.declared.form.Form.TheVariants as form
use Rattle.go_typed.specs.Trees.{typed}
use Rattle.go_typed.specs.Trees as sort
use Rattle.go_exprs_rules.specs.declared.fault.TypeFault.{TypeFault}
use Rattle.go_exprs_rules.specs.Faults.{fault_at, judged, reported}
use Rattle.go_exprs_rules.specs.Scopes.{Hint, Scope, value, free}
use Rattle.go_exprs_rules.specs.Settling.{Part}
use Rattle.go_exprs_rules.specs.Tables.{Parts, is_judged, label}
use Rattle.go_exprs_rules.specs.TypeNodes.{part_type}
use Rattle.go_package_alike.specs.Scopes.{AllTokens, SaySame, IsTypedSame}
use Rattle.go_package_defs.specs.Bodies.{Behind, behind_read, function_in}
use Rattle.go_stmts_defs.specs.Bodies.{numbers_from, start, signature_of, no_function, function_read}
use Rattle.go_stmts_defs.specs.Ending.{terminates}
use Rattle.go_stmts_defs.specs.Frames.{Frame, local_stands}
use Rattle.go_stmts_defs.specs.Reading.{Found, holding, held_faults, Reading, read, Readings, all_read, first_parts, entry_names, with_parameter, with_parameters, behind_signature, closed, after, reading, readings}
use Rattle.go_stmts_defs.specs.Rules.{has_results, function_failing, own_faults, built_by}
use Rattle.go_exprs_elsewhere.specs.Elsewhere.{Moves, placed}
use Rattle.go_exprs_elsewhere.proofs.Public.{optional, type_kept}
use Rattle.go_stmts_elsewhere.specs.Above.{quiet}
use Rattle.go_stmts_elsewhere.specs.Functions.{LocalsStand}
use Rattle.go_stmts_elsewhere.specs.Marked.{AlongAt, AlongReadingsAt, RelatedAt, KeepAt}
use Rattle.go_stmts_elsewhere.specs.Replaced.{unsourced, AreFree, Gap, SaysAs, EachTakesItsPlace, Changed, OldsRead, ChangedPart, FunctionChanged, ChangedFunctions, ChangedReadings, inside_function, tree_in, StaysTerminating, function_tree}
use Rattle.go_stmts_elsewhere.proofs.Around.{signature_kept}
use Rattle.go_stmts_elsewhere.proofs.Cutting.{frames_along, old_same, new_same, related_along}
use Rattle.go_stmts_elsewhere.proofs.Cutting as cut
use Rattle.go_stmts_elsewhere.proofs.Entering.{entry_names_kept, first_parts_kept}
use Rattle.go_stmts_elsewhere.proofs.FramesAt.{rights_at, results_at, back_at, signature_at, unsourced_at}
use Rattle.go_stmts_elsewhere.proofs.Free.{free_both, free_front, free_rest, nothing_found, found_nothing, free_placed, free_if_none, none_if_free}
use Rattle.go_stmts_elsewhere.proofs.Functions.{signature_part_along, locals_along}
use Rattle.go_stmts_elsewhere.proofs.Marked.{StatementsFollow, reading_at}
use Rattle.go_stmts_elsewhere.proofs.Replacing.{changed_read, forgotten}

-- the law on expressions in scopes that say the same at their tokens
abbrev pub ExpressionsFollow : Type 0
ExpressionsFollow = (p : ℕ → Bool) (s t : Scope) (h : Hint) (x : Tree) → SaySame p s t → AllTokens p x → IsTypedSame s t h x

-- ---- the rule on missing returns

abbrev missing : ℕ → List TypeFault
missing j = fault_at code.MissingReturn j j

-- If no return was missing, the block being judged, none is missing where the results are the same and the block is terminating still.
none_missing : (a b r t u : Bool) (es fs : List TypeFault) → (es ≡ [] → ⊥) → a ≡ true → (if a then (if not r || t then [] else es) else []) ≡ [] → (r ≡ true → t ≡ true → u ≡ true)
    → (if b then (if not r || u then [] else fs) else []) ≡ []
none_missing a false r t u es fs some j e k = refl
none_missing true true false t u es fs some j e k = refl
none_missing true true true true u es fs some j e k = ap (λ z. if z then [] else fs) (k refl refl)
none_missing true true true false u es fs some j e k = absurd (some e)
none_missing false true r t u es fs some j e k = cc

-- parameters change no results
parameters_results : (ns : List (Option ℕ)) (ts : List (Option TypeTree)) (s : Frame) → (with_parameters ns ts s).results ≡ s.results
parameters_results [] ts s = refl
parameters_results (n ∷ ns) [] s = refl
parameters_results (n ∷ ns) (t ∷ ts) s = parameters_results ns ts (with_parameter n t s) ∙ one n t
  where
    one : (n : Option ℕ) (t : Option TypeTree) → (with_parameter n t s).results ≡ s.results
    one (Some n) (Some t) = refl
    one (Some n) None = refl
    one None t = refl

-- inside a block the results are those of the function
abbrev KeepsResults : Frame → Reading → Type 0
KeepsResults f (read x fs u) = u.results ≡ f.results

block_results : (f : Frame) (h : Hint) (i j : ℕ) (ps : Trees) → KeepsResults f (reading f h (node kind.Block i j ps))
block_results f h i j ps = by (readings f kind.Block h ps [] [] ps)
  where
    by : (r : Readings) → KeepsResults f (closed f kind.Block i j ps r)
    by (all_read xs fs s) = refl

says_start : (s : Scope) (n : ℕ) (types : ℕ → ℕ) → SaysAs s (start s n types)
says_start s n types = record { texts = λ i. refl; characters = λ i. refl; objects = λ i. refl; sorts = λ n o. refl; referents = λ n. refl; needed = refl; limits = refl }

-- it stands for nothing, so it is judged
built_quiet : (f : Frame) (i j : ℕ) (xs : Parts) (es : List TypeFault) → is_judged (Some (built_by f kind.Block form.Block i j xs es) ∷ []) ≡ true
built_quiet f i j xs [] = refl
built_quiet f i j xs (e ∷ es) = refl

block_judged : (f : Frame) (h : Hint) (i j : ℕ) (ps : Trees) → is_judged (Some (tree_in (reading f h (node kind.Block i j ps))) ∷ []) ≡ true
block_judged f h i j ps = by (readings f kind.Block h ps [] [] ps)
  where
    by : (r : Readings) → is_judged (Some (tree_in (closed f kind.Block i j ps r)) ∷ []) ≡ true
    by (all_read xs fs s) = built_quiet s i j xs (own_faults s kind.Block form.Block i j xs)

module _ (same : StatementsFollow) (typed_same : ExpressionsFollow) (p q : ℕ → Bool) (m : Moves) (l : ℕ → Bool) (s t : Scope) (gaps : List Gap) (each : EachTakesItsPlace p q m l s t gaps) where
  -- ---- the reading of a function

  module _ (f g : Frame) (c : AlongAt p q m l f g) (says : SaysAs s f) (says_new : SaysAs t g) (a b : ℕ) (gs : Trees) (keep : KeepAt p q m (node kind.Signature a b gs)) (i j n k : ℕ) (ts us : Trees)
      (d : Changed p q m gaps (node kind.Block n k ts) (node kind.Block (m.token n) (m.token k) us)) where
    abbrev header : Tree
    header = node kind.Signature a b gs

    abbrev moved : Tree
    moved = carry m.token header

    abbrev old_block : Tree
    old_block = node kind.Block n k ts

    abbrev new_block : Tree
    new_block = node kind.Block (m.token n) (m.token k) us

    abbrev signature : Part
    signature = holding f value header

    abbrev within : Frame
    within = behind_signature (Some signature) f

    abbrev header_at : AlongReadingsAt p q m l (read signature (held_faults f value header) f) (read (holding g value moved) (held_faults g value moved) g)
    header_at = reading_at same p q m l f g c value header keep

    -- the function over its block
    abbrev over : Frame → ℕ → ℕ → Tree → Tree → Part → Found → Reading → Reading
    over s u v t w z fs r = closed s kind.FunctionDeclaration u v (more t (more w none)) (after r (λ x hs e. all_read (Some z ∷ Some x ∷ []) (fs ++ hs) e))

    -- What is read of both.
    pub record BothRead (x y : Part) : Type 0 where
      names : Bool
      calls : Bool
      new_names : Bool
      new_calls : Bool
      block : Part
      other : Part
      old_is : x ≡ typed form.Function i j (quiet names calls) (sort.more block sort.none)
      new_is : y ≡ typed form.Function (m.token i) (m.token j) (quiet new_names new_calls) (sort.more other sort.none)
      changed : ChangedPart m l gaps (Some block) (Some other)

    abbrev Functions : Reading → Reading → Type 0
    Functions (read x fs u) (read y hs v) = AreFree fs → BothRead x y × AreFree hs × AlongAt p q m l (unsourced u) (unsourced v)

    whole_function : (z : Part) (fs hs : Found) → (AreFree fs → AreFree hs) → (r s : Reading) → KeepsResults within r → is_judged (Some (tree_in r) ∷ []) ≡ true → ChangedReadings p q m l gaps r s
        → (has_results within.results ≡ true → (y : Part) → ChangedPart m l gaps (Some (tree_in r)) (Some y) → terminates (tree_in r) ≡ true → terminates y ≡ true)
        → Functions (over f i j header old_block signature fs r) (over g (m.token i) (m.token j) moved new_block z hs s)
    whole_function z fs hs e (read x xs u) (read y ys v) results judges w ends = λ free.
        let body = fs ++ xs in
        let own = own_faults u kind.FunctionDeclaration form.Function i j (Some x ∷ []) in
        let new = own_faults v kind.FunctionDeclaration form.Function (m.token i) (m.token j) (Some y ∷ []) in
        let front = free_front body (own ∷ []) free in
        let o = w (free_rest fs xs front) in
        let none : own ≡ [] = nothing_found own (free_rest body (own ∷ []) free) in
        let same_results : v.results ≡ within.results = results_at p q m l (unsourced u) (unsourced v) o.2 ∙ results in
        let none_new : new ≡ [] =
        ap (λ rs. if is_judged (Some y ∷ []) then function_failing rs (m.token j) y else []) same_results
        ∙ none_missing (is_judged (Some x ∷ [])) (is_judged (Some y ∷ [])) (has_results within.results) (terminates x) (terminates y) (fault_at code.MissingReturn (j - 1) j)
        (fault_at code.MissingReturn (m.token j - 1) (m.token j)) (λ z. let h = z in cc) judges
        (sym (ap (λ rs. if is_judged (Some x ∷ []) then function_failing rs j x else []) results) ∙ none) (λ r z. ends r y o.0 z) in
        let old_label = label form.Function sort.Nothing (Some x ∷ []) in
        let new_label = label form.Function sort.Nothing (Some y ∷ []) in (
          record {
            names = old_label.varies;
            calls = old_label.calls;
            new_names = new_label.varies;
            new_calls = new_label.calls;
            block = x;
            other = y;
            old_is = ap (λ es. built_by u kind.FunctionDeclaration form.Function i j (Some x ∷ []) es) none;
            new_is = ap (λ es. built_by v kind.FunctionDeclaration form.Function (m.token i) (m.token j) (Some y ∷ []) es) none_new;
            changed = o.0;
          },
          free_both (hs ++ ys) (new ∷ []) (free_both hs ys (e (free_front fs xs front)) o.1) (found_nothing new none_new),
          back_at p q m l (unsourced f) (unsourced g) (unsourced u) (unsourced v) (unsourced_at p q m l f g c) o.2,
        )

    module _ (olds : OldsRead p q m gaps within old_block new_block d)
        (ends : has_results within.results ≡ true → (y : Part) → ChangedPart m l gaps (Some (tree_in (reading within value old_block))) (Some y) → terminates (tree_in (reading within value old_block)) ≡ true → terminates y ≡ true) where
      within_at : AlongAt p q m l within (behind_signature (Some (placed m signature)) g)
      within_at = signature_at p q m l f g c signature header_at.3

      pub function_changed : (h : Hint) → Functions (reading f h (function_tree i j header old_block)) (reading g h (function_tree (m.token i) (m.token j) moved new_block))
      function_changed h =
          let fs = held_faults f value header in
          let hs = held_faults g value moved in
          subst (λ z. Functions (over f i j header old_block signature fs (reading within value old_block)) (over g (m.token i) (m.token j) moved new_block z hs (reading (behind_signature (Some z) g) value new_block))) (sym header_at.0)
          (whole_function (placed m signature) fs hs (λ a. subst AreFree (sym header_at.1) (free_placed m fs a)) (reading within value old_block) (reading (behind_signature (Some (placed m signature)) g) value new_block)
          (block_results within value n k ts) (block_judged within value n k ts)
          (forgotten same p q m l s t gaps each (reading within value old_block) (reading (behind_signature (Some (placed m signature)) g) value new_block)
          (changed_read same p q m l s t gaps each within (behind_signature (Some (placed m signature)) g) (unsourced_at p q m l within (behind_signature (Some (placed m signature)) g) within_at, signature_kept s (Some signature) f says, signature_kept t (Some (placed m signature)) g says_new) value old_block new_block d olds)) ends)

  -- ---- functions of two packages

  module _ (count other : ℕ) (types others : ℕ → ℕ) (c : RelatedAt p q m l (start s count types) (start t other others)) (ls : LocalsStand s t) (old number : ℕ)
      (a b : ℕ) (gs : Trees) (keep : KeepAt p q m (node kind.Signature a b gs)) (i j n k : ℕ) (ts us : Trees) (d : Changed p q m gaps (node kind.Block n k ts) (node kind.Block (m.token n) (m.token k) us)) where
    abbrev before : Frame
    before = start s count types

    abbrev behind : Frame
    behind = start t other others

    abbrev along : AlongAt p q m l before behind
    along = related_along p q m l before behind c

    abbrev sign : Tree
    sign = node kind.Signature a b gs

    abbrev x : Tree
    x = function_tree i j sign (node kind.Block n k ts)

    abbrev y : Tree
    y = function_tree (m.token i) (m.token j) (carry m.token sign) (node kind.Block (m.token n) (m.token k) us)

    signature_same : signature_of t y ≡ optional m (signature_of s x)
    signature_same =
        ap (λ z. Some z) (typed_same q (cut.new p q m l before behind c).around t free (carry m.token sign) (new_same p q m l before behind c).around keep.0.1).typed
        ∙ signature_part_along m l (cut.old p q m l before behind c) (cut.new p q m l before behind c) (frames_along p q m l before behind c) ls (more sign none) (keep.1, tt)
        ∙ ap (λ z. Some (placed m z)) (sym (typed_same p (cut.old p q m l before behind c).around s free sign (old_same p q m l before behind c).around keep.0.0).typed)

    locals_same : (f g : Frame) → AlongAt p q m l (unsourced f) (unsourced g) → (k : ℕ) → l k ≡ true
        → slice_get (map (local_stands g.locals) (numbers_from 0 (length g.locals))) (m.local k) ≡ slice_get (map (local_stands f.locals) (numbers_from 0 (length f.locals))) k
    locals_same f g w k e =
        ap (λ ns. slice_get (map (local_stands ns) (numbers_from 0 (length ns))) (m.local k)) w.new_same.locals
        ∙ locals_along m l w.old w.new w.along k e
        ∙ ap (λ ns. slice_get (map (local_stands ns) (numbers_from 0 (length ns))) k) (sym w.old_same.locals)

    content : (v w : Part) (f g : Frame) → BothRead before behind along (says_start s count types) (says_start t other others) a b gs keep i j n k ts us d v w → AlongAt p q m l (unsourced f) (unsourced g)
        → FunctionChanged p q m l gaps (last x) number (function_read s old (last x) (signature_of s x) v f) (function_read t number (last y) (signature_of t y) w g)
    content v w f g r e = record {
      number = refl;
      signature = ap (λ o. unwrap_or (part_type o) no_function) signature_same ∙ ap (λ o. unwrap_or o no_function) (type_kept m (signature_of s x));
      parameters = ap (λ o. entry_names (first_parts o)) signature_same ∙ ap entry_names (first_parts_kept m (signature_of s x)) ∙ entry_names_kept m (first_parts (signature_of s x));
      locals = locals_same f g e;
      from = i;
      upto = j;
      names = r.names;
      calls = r.calls;
      new_names = r.new_names;
      new_calls = r.new_calls;
      block = r.block;
      new_block = r.other;
      old_tree = r.old_is;
      tree = r.new_is;
      changed = r.changed;
    }

    module _ (olds : OldsRead p q m gaps (inside_function s count types sign) (node kind.Block n k ts) (node kind.Block (m.token n) (m.token k) us) d)
        (ends : StaysTerminating m l gaps (inside_function s count types sign) (node kind.Block n k ts)) where
      abbrev old_function : Part → Frame → Behind
      old_function v f = record { function = function_read s old (last x) (signature_of s x) v f; rights = f.around.rights }

      abbrev new_function : Part → Frame → Behind
      new_function w g = record { function = function_read t number (last y) (signature_of t y) w g; rights = g.around.rights }

      free_of_both : (v w : Part) (fs hs : Found) (f g : Frame) → Functions before behind along (says_start s count types) (says_start t other others) a b gs keep i j n k ts us d (read v fs f) (read w hs g) → reported fs ≡ None
          → ChangedFunctions p q m l gaps (last x) number (judged (reported fs) (old_function v f)) (judged (reported hs) (new_function w g))
      free_of_both v w fs hs f g e h =
          let o = e (free_if_none fs h) in
          subst (λ z. ChangedFunctions p q m l gaps (last x) number (judged z (old_function v f)) (judged (reported hs) (new_function w g))) (sym h)
          (subst (λ z. ChangedFunctions p q m l gaps (last x) number (Ok (old_function v f)) (judged z (new_function w g))) (sym (none_if_free hs o.1))
          (content v w f g o.0 o.2, rights_at p q m l (unsourced f) (unsourced g) o.2))

      by_fault : (v w : Part) (fs hs : Found) (f g : Frame) → Functions before behind along (says_start s count types) (says_start t other others) a b gs keep i j n k ts us d (read v fs f) (read w hs g) → (o : Option TypeFault) → reported fs ≡ o
          → ChangedFunctions p q m l gaps (last x) number (judged (reported fs) (old_function v f)) (judged (reported hs) (new_function w g))
      by_fault v w fs hs f g e None h = free_of_both v w fs hs f g e h
      by_fault v w fs hs f g e (Some z) h = subst (λ o. ChangedFunctions p q m l gaps (last x) number (judged o (old_function v f)) (judged (reported hs) (new_function w g))) (sym h) tt

      of_readings : (r w : Reading) → Functions before behind along (says_start s count types) (says_start t other others) a b gs keep i j n k ts us d r w → ChangedFunctions p q m l gaps (last x) number (behind_read s old x r) (behind_read t number y w)
      of_readings (read v fs f) (read w hs g) e = by_fault v w fs hs f g e (reported fs) refl

      pub functions_changed : ChangedFunctions p q m l gaps (last x) number (function_in s old count types x) (function_in t number other others y)
      functions_changed =
          of_readings (reading before free x) (reading behind free y) (function_changed before behind along (says_start s count types) (says_start t other others) a b gs keep i j n k ts us d olds ends free)
