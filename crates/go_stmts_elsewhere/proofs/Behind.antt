-- What is known behind statements: the law on what they leave as it was.
use Rattle.std.proofs.Common.{◌≡◌, ◌∙◌, ℕ, Bool, true, false, [], ◌∷◌, ◌++◌, Option, Some, None, refl, sym, ap, nat_eq, cond}
use Rattle.std.specs.Prelude.{unwrap_or}
use Rattle.go_grammar.specs.declared.kind.Kind.{Kind}
use Rattle.go_grammar.specs.declared.kind.Kind.TheVariants as kind
use Rattle.go_grammar.specs.declared.kind.Sort.TheVariants as declaring
use Rattle.go_grammar.specs.Trees.{Tree, node, Trees, none, more, skip}
use Rattle.go_types.specs.Trees.{TypeTree}
use Rattle.go_types.specs.Relations.{Rights}
use Rattle.go_typed.specs.declared.form.Form.{Form}
use Rattle.go_typed.specs.declared.form.Form.TheVariants as form
use Rattle.go_typed.specs.Trees.{typed, Typeds, list_of, parts_of, form_of, sort_of}
use Rattle.go_typed.specs.Trees as sort
use Rattle.go_exprs_rules.specs.Scopes.{Hint, value}
use Rattle.go_exprs_rules.specs.Settling.{Part}
use Rattle.go_exprs_rules.specs.Sorts.{Stands}
use Rattle.go_exprs_rules.specs.Tables.{Parts}
use Rattle.go_stmts_defs.specs.Frames.{Frame, known, local_stands, with_local, with_own_right}
use Rattle.go_stmts_defs.specs.Laying.{layout, form_by, type_number}
use Rattle.go_stmts_defs.specs.Reading.{Found, holding, held_faults, is_new, declares_sort, declares_name, declares_all, part_source, right_side}
use Rattle.go_stmts_defs.specs.Reading.{beginning, back, leaving, Reading, read, Readings, all_read, is_statement, closed, after, reading, readings}
use Rattle.go_stmts_defs.specs.Rules.{own_faults, built_by}
use Rattle.go_stmts_elsewhere.specs.Declaring.{declares, declares_types, Without, RowWithout, AllWithout, AllDeclareInOrder, LeaveTheRest}
use Rattle.go_stmts_elsewhere.specs.Frames.{has_room}
use Rattle.go_stmts_elsewhere.specs.Gaps.{run, behind, parts_in, frame_in}
use Rattle.go_stmts_elsewhere.proofs.Around.{behind_kept}
use Rattle.go_stmts_elsewhere.proofs.Leaving.{behind_stays}
use Rattle.go_stmts_elsewhere.proofs.Placing.{different, placed_other, placed_room}

-- ---- locals that aren't declared

some_same : (m k : ℕ) → Some m ≡ Some k → m ≡ k
some_same m k e = ap (λ o. unwrap_or o m) e

pub other_named : (n : ℕ) (r : Form) (k : ℕ) (x : Stands) (f : Frame) → is_new r ≡ Some k → declares n r ≡ false → local_stands (with_local k x f).locals n ≡ local_stands f.locals n
other_named n (form.New m) k x f e d = ap known (placed_other k n (Some x) f.locals (different k n (ap (λ z. nat_eq z n) (sym (some_same m k e)) ∙ d)))
other_named n (form.Declared m) k x f e d = ap known (placed_other k n (Some x) f.locals (different k n (ap (λ z. nat_eq z n) (sym (some_same m k e)) ∙ d)))
other_named n r k x f e d = cc

pub right_aside : (n : ℕ) (o : Option ℕ) (t : Option TypeTree) (f : Frame) → local_stands (with_own_right o t f).locals n ≡ local_stands f.locals n
right_aside n (Some k) t f = refl
right_aside n None t f = refl

locals_stay : (n : ℕ) (f : Frame) (ts : Trees) → AllDeclareInOrder ts → AllWithout (declares n) (parts_in (run f ts)) → local_stands (behind f ts).locals n ≡ local_stands f.locals n
locals_stay n f ts v e =
    behind_stays (declares n) Stands (λ (g : Frame). local_stands g.locals n) (λ k. refl) (λ g u d r e. ap (λ ls. local_stands ls n) d) (other_named n) (λ q o t g. right_aside n o t g) f ts v e

-- ---- right sides, where no types are declared

never : {A : Type 0} → true ≡ false → A
never e = cc

rights_stay : (f : Frame) (ts : Trees) → AllDeclareInOrder ts → AllWithout declares_types (parts_in (run f ts)) → (behind f ts).around.rights ≡ f.around.rights
rights_stay f ts v e = behind_stays declares_types Rights (λ (g : Frame). g.around.rights) (λ k. refl) (λ g u d r e. r) (λ r k x g d q. refl) (λ q o t g. never q) f ts v e

-- ---- places, whatever is declared

abbrev pub no_form : Form → Bool
no_form f = false

mutual
  pub none_passes : (x : Part) → Without no_form x
  none_passes (typed f i j l ps) = (refl, none_pass ps)

  none_pass : (ps : Typeds TypeTree) → RowWithout no_form ps
  none_pass sort.none = tt
  none_pass (sort.more x xs) = (none_passes x, none_pass xs)
  none_pass (sort.skip xs) = none_pass xs

pub no_forms : (xs : Parts) → AllWithout no_form xs
no_forms [] = tt
no_forms (None ∷ xs) = no_forms xs
no_forms (Some x ∷ xs) = (none_passes x, no_forms xs)

pub right_room : (n : ℕ) (o : Option ℕ) (t : Option TypeTree) (f : Frame) → has_room (with_own_right o t f).locals n ≡ has_room f.locals n
right_room n (Some k) t f = refl
right_room n None t f = refl

right_types : (o : Option ℕ) (t : Option TypeTree) (f : Frame) → (with_own_right o t f).types ≡ f.types
right_types (Some k) t f = refl
right_types None t f = refl

room_stays : (n : ℕ) (f : Frame) (ts : Trees) → AllDeclareInOrder ts → has_room (behind f ts).locals n ≡ has_room f.locals n
room_stays n f ts v =
    behind_stays no_form Bool (λ (g : Frame). has_room g.locals n) (λ k. refl) (λ g u d r e. ap (λ ls. has_room ls n) d) (λ r k x g d q. placed_room k (Some x) g.locals n) (λ q o t g. right_room n o t g) f ts v
    (no_forms (parts_in (run f ts)))

types_stay : (f : Frame) (ts : Trees) → AllDeclareInOrder ts → (behind f ts).types ≡ f.types
types_stay f ts v = behind_stays no_form (ℕ → ℕ) (λ (g : Frame). g.types) (λ k. refl) (λ g u d r e. e) (λ r k x g d q. refl) (λ q o t g. right_types o t g) f ts v (no_forms (parts_in (run f ts)))

-- ---- what a node gives its parts is again what it was behind it

abbrev Outside : Frame → Frame → Type 0
Outside f g = (g.around.iota ≡ f.around.iota) × (g.tag ≡ f.tag) × (g.results ≡ f.results)

outside : (f : Frame) → Outside f f
outside f = (refl, refl, refl)

sort_outside : (o : Option ℕ) (x : Stands) (f g : Frame) → Outside f g → Outside f (declares_sort o x g)
sort_outside (Some n) sort.Nothing f g e = e
sort_outside (Some n) x f g e = (e.0, e.1, e.2)
sort_outside None x f g e = e

names_outside : (xs : Parts) (f g : Frame) → Outside f g → Outside f (declares_all xs g)
names_outside [] f g e = e
names_outside (None ∷ xs) f g e = names_outside xs f g e
names_outside (Some x ∷ xs) f g e = names_outside xs f (declares_name (Some x) g) (sort_outside (is_new (form_of x)) (sort_of x) f g e)

right_outside : (o : Option ℕ) (t : Option TypeTree) (f g : Frame) → Outside f g → Outside f (with_own_right o t g)
right_outside (Some n) t f g e = (e.0, e.1, e.2)
right_outside None t f g e = e

leaving_outside : (k : Kind) (i : ℕ) (ps : Trees) (x : Part) (f g : Frame) → Outside f g → Outside f (leaving k i ps x g)
leaving_outside (kind.Specification declaring.Type) i ps x f g e = right_outside (type_number g i) (right_side (list_of (parts_of x))) f g e
leaving_outside (kind.Specification declaring.Variable) i ps x f g e = names_outside (list_of (parts_of x)) f g e
leaving_outside (kind.Specification declaring.Constant) i ps x f g e = names_outside (list_of (parts_of x)) f (record g { source = part_source ps g.source }) (e.0, e.1, e.2)
leaving_outside kind.Define i ps x f g e = names_outside (list_of (parts_of x)) f g e
leaving_outside kind.DefiningRange i ps x f g e = names_outside (list_of (parts_of x)) f g e
leaving_outside k i ps x f g e = e

abbrev OutsideRead : Frame → Reading → Type 0
OutsideRead f (read x fs g) = Outside f g

closed_outside : (k : Kind) (f : Frame) (i j : ℕ) (ps : Trees) (r : Readings) → OutsideRead f (closed f k i j ps r)
closed_outside k f i j ps (all_read xs fs g) =
    leaving_outside k i ps (built_by g k (form_by k xs) i j (layout g k i xs) (own_faults g k (form_by k xs) i j (layout g k i xs))) f (back f g) (refl, refl, refl)

either_outside : (b : Bool) (f : Frame) (r t : Reading) → OutsideRead f r → OutsideRead f t → OutsideRead f (cond b r t)
either_outside true f r t c d = c
either_outside false f r t c d = d

reading_outside : (f : Frame) (h : Hint) (x : Tree) → OutsideRead f (reading f h x)
reading_outside f h (node k i j ps) =
    either_outside (is_statement k) f (closed f k i j ps (readings (beginning k i f) k h ps [] [] ps)) (read (holding f h (node k i j ps)) (held_faults f h (node k i j ps)) f)
    (closed_outside k f i j ps (readings (beginning k i f) k h ps [] [] ps)) (outside f)

after_outside : (f u : Frame) (r : Reading) (n : Part → Found → Frame → Readings) → Outside f u → OutsideRead u r → ((x : Part) (gs : Found) (v : Frame) → Outside f v → Outside f (frame_in (n x gs v))) → Outside f (frame_in (after r n))
after_outside f u (read x gs v) n e d k = k x gs v (d.0 ∙ e.0, d.1 ∙ e.1, d.2 ∙ e.2)

run_outside : (f u : Frame) → Outside f u → (h : Hint) (all : Trees) (xs : Parts) (fs : Found) (ts : Trees) → Outside f (frame_in (readings u kind.Block h all xs fs ts))
run_outside f u e h all xs fs none = e
run_outside f u e h all xs fs (skip ts) = run_outside f u e h all (xs ++ None ∷ []) (fs ++ []) ts
run_outside f u e h all xs fs (more t ts) =
    after_outside f u (reading u value t) (λ x gs v. readings v kind.Block h all (xs ++ Some x ∷ []) (fs ++ gs) ts) e (reading_outside u value t) (λ x gs v d. run_outside f v d h all (xs ++ Some x ∷ []) (fs ++ gs) ts)

-- ---- the law

pub rest_left : (f : Frame) (ts : Trees) → AllDeclareInOrder ts → LeaveTheRest f ts
rest_left f ts v =
    let o = run_outside f f (outside f) value none [] [] ts in
    record {
      locals = λ n e. locals_stay n f ts v e;
      room = λ n. room_stays n f ts v;
      rights = λ e. rights_stay f ts v e;
      iota = o.0;
      types = types_stay f ts v;
      tag = o.1;
      results = o.2;
      says = behind_kept f.around f (record { texts = λ i. refl; characters = λ i. refl; objects = λ i. refl; sorts = λ n o. refl; referents = λ n. refl; needed = refl; limits = refl }) ts;
    }
