-- The worked example of a copied run is one.
use Rattle.std.proofs.Common.{◌≡◌, ◌∙◌, ℕ, zero, suc, ◌<◌, ◌≤◌, ◌⊎◌, inl, inr, true, false, List, [], ◌∷◌, Some, None, refl, sym, ap, subst, codes, arith}
use Rattle.go_tokens.specs.Spellings.{same_text}
use Rattle.go_tree.specs.declared.context.Role.TheVariants as role
use Rattle.go_tree.specs.declared.context.Site.TheVariants as site
use Rattle.go_tree.specs.declared.event.Declaration.{Declaration}
use Rattle.go_tree.specs.declared.event.Event.{Event}
use Rattle.go_tree.specs.declared.event.Event.TheVariants as event
use Rattle.go_tree.specs.declared.event.Use.{Use}
use Rattle.go_tree.specs.declared.object.Object.TheVariants as object
use Rattle.go_tree.specs.declared.object.Predeclared.TheVariants as predeclared
use Rattle.go_tree.specs.Declarations.{is_reused_of}
use Rattle.go_heads.specs.Bodies.{function_events}
use Rattle.go_heads.specs.Names.{own_text, own_declarations}
use Rattle.go_scopes_bodies.specs.Meant.{Meant, own}
use Rattle.extract_names.specs.Gaps.{Among}
use Rattle.extract_names.specs.Pieces.{Piece, stays, gap, told_before}
use Rattle.extract_names.specs.Sites.{found_as, declared_at, DeclaresItself}
use Rattle.extract_names.specs.Sentences.{around}
use Rattle.extract_names.specs.Examples.{old}
use Rattle.extract_names.specs.Copies.{Replaced, Free, IsKept, IsEdge, is_around, NamesLocal, NamesFree, NamesOuter, ParameterStands, UsedInCopy, IsCopy}
use Rattle.extract_names.specs.CopyExample.{taken, copy}
use Rattle.extract_names.proofs.ExampleSite.{true_false, head, tail, old_itself, was, name_of}

abbrev first : ℕ → List Event → List Event
first zero es = []
first (suc n) [] = []
first (suc n) (e ∷ es) = e ∷ first n es

abbrev rest : ℕ → List Event → List Event
rest zero es = es
rest (suc n) [] = []
rest (suc n) (e ∷ es) = rest n es

-- what the first event declares
abbrev declared_first : List Event → Declaration
declared_first (event.Declaration d ∷ es) = d
declared_first es = was

abbrev before : List Event
before = first 5 (function_events old)

abbrev front : List Event
front = first 8 (function_events taken)

abbrev only : Free
only = record { old = 3; parameter = 3 }

taken_itself : DeclaresItself taken
taken_itself = record { function = head (own_declarations taken); others = tail (own_declarations taken); whole = refl; in_package = refl; locals = (refl, (refl, (refl, tt))) }

none_is : (o : Meant) → None ≡ Some o → (d : ℕ) → declared_at old d ≡ Some o → ⊥
none_is o e d f = cc

abbrev hole : Replaced
hole = record { from = 12; upto = 13; parameter = 6 }

is_hole : (h : Replaced) → Among h copy.holes → h ≡ hole
is_hole h (inl e) = e
is_hole h (inr k) = absurd k

not_hole : (12 < 12) ⊎ (13 ≤ 12) → ⊥
not_hole (inl lt) = omega (arith, lt)
not_hole (inr le) = omega (arith, le)

is_only : (f : Free) → Among f copy.free → f ≡ only
is_only f (inl e) = e
is_only f (inr k) = absurd k

other_text : (v w : List ℕ) → same_text w v ≡ false → same_text v v ≡ true → v ≡ w → ⊥
other_text v w f g e = true_false (sym (ap (λ x. same_text x v) (sym e) ∙ g) ∙ f)

not_those : (w : List ℕ) → same_text w (codes "a") ≡ false → same_text w (codes "p") ≡ false → (u : ℕ) → Among u copy.parameters → own_text taken u ≡ w → ⊥
not_those w f g u (inl k) e = other_text (codes "a") w f refl (ap (own_text taken) (sym k) ∙ e)
not_those w f g u (inr (inl k)) e = other_text (codes "p") w g refl (ap (own_text taken) (sym k) ∙ e)
not_those w f g u (inr (inr k)) e = absurd k

texts : (t : ℕ) → IsKept copy t → own_text taken (suc (suc (suc (suc (suc t))))) ≡ own_text old t
texts zero k = absurd (let a : 8 ≤ 0 = k.0 in omega (arith, a))
texts (suc zero) k = absurd (let a : 8 ≤ 1 = k.0 in omega (arith, a))
texts (suc (suc zero)) k = absurd (let a : 8 ≤ 2 = k.0 in omega (arith, a))
texts (suc (suc (suc zero))) k = absurd (let a : 8 ≤ 3 = k.0 in omega (arith, a))
texts (suc (suc (suc (suc zero)))) k = absurd (let a : 8 ≤ 4 = k.0 in omega (arith, a))
texts (suc (suc (suc (suc (suc zero))))) k = absurd (let a : 8 ≤ 5 = k.0 in omega (arith, a))
texts (suc (suc (suc (suc (suc (suc zero)))))) k = absurd (let a : 8 ≤ 6 = k.0 in omega (arith, a))
texts (suc (suc (suc (suc (suc (suc (suc zero))))))) k = absurd (let a : 8 ≤ 7 = k.0 in omega (arith, a))
texts (suc (suc (suc (suc (suc (suc (suc (suc zero)))))))) k = refl
texts (suc (suc (suc (suc (suc (suc (suc (suc (suc zero))))))))) k = refl
texts (suc (suc (suc (suc (suc (suc (suc (suc (suc (suc zero)))))))))) k = refl
texts (suc (suc (suc (suc (suc (suc (suc (suc (suc (suc (suc zero))))))))))) k = refl
texts (suc (suc (suc (suc (suc (suc (suc (suc (suc (suc (suc (suc zero)))))))))))) k = absurd (not_hole k.2.0)
texts (suc (suc (suc (suc (suc (suc (suc (suc (suc (suc (suc (suc (suc zero))))))))))))) k = refl
texts (suc (suc (suc (suc (suc (suc (suc (suc (suc (suc (suc (suc (suc (suc zero)))))))))))))) k = refl
texts (suc (suc (suc (suc (suc (suc (suc (suc (suc (suc (suc (suc (suc (suc (suc zero))))))))))))))) k = refl
texts (suc (suc (suc (suc (suc (suc (suc (suc (suc (suc (suc (suc (suc (suc (suc (suc zero)))))))))))))))) k = refl
texts (suc (suc (suc (suc (suc (suc (suc (suc (suc (suc (suc (suc (suc (suc (suc (suc (suc zero))))))))))))))))) k = refl
texts (suc (suc (suc (suc (suc (suc (suc (suc (suc (suc (suc (suc (suc (suc (suc (suc (suc (suc zero)))))))))))))))))) k = refl
texts (suc (suc (suc (suc (suc (suc (suc (suc (suc (suc (suc (suc (suc (suc (suc (suc (suc (suc (suc t))))))))))))))))))) k = absurd (let a : (suc (suc (suc (suc (suc (suc (suc (suc (suc (suc (suc (suc (suc (suc (suc (suc (suc (suc (suc t))))))))))))))))))) < 19 = k.1 in omega (arith, a))

names : (t : ℕ) → IsKept copy t → NamesLocal old around copy t ⊎ (NamesFree old around copy taken t ⊎ NamesOuter old around copy taken t)
names zero k = absurd (let a : 8 ≤ 0 = k.0 in omega (arith, a))
names (suc zero) k = absurd (let a : 8 ≤ 1 = k.0 in omega (arith, a))
names (suc (suc zero)) k = absurd (let a : 8 ≤ 2 = k.0 in omega (arith, a))
names (suc (suc (suc zero))) k = absurd (let a : 8 ≤ 3 = k.0 in omega (arith, a))
names (suc (suc (suc (suc zero)))) k = absurd (let a : 8 ≤ 4 = k.0 in omega (arith, a))
names (suc (suc (suc (suc (suc zero))))) k = absurd (let a : 8 ≤ 5 = k.0 in omega (arith, a))
names (suc (suc (suc (suc (suc (suc zero)))))) k = absurd (let a : 8 ≤ 6 = k.0 in omega (arith, a))
names (suc (suc (suc (suc (suc (suc (suc zero))))))) k = absurd (let a : 8 ≤ 7 = k.0 in omega (arith, a))
names (suc (suc (suc (suc (suc (suc (suc (suc zero)))))))) k = inl (8, own (object.Local 0 1), (omega arith, omega arith), refl, refl)
names (suc (suc (suc (suc (suc (suc (suc (suc (suc zero))))))))) k = inr (inr (λ o e. none_is o e, not_those (own_text old 9) refl refl))
names (suc (suc (suc (suc (suc (suc (suc (suc (suc (suc zero)))))))))) k = inr (inl (only, own (object.Local 0 0), inl refl, inl refl, refl, refl, refl))
names (suc (suc (suc (suc (suc (suc (suc (suc (suc (suc (suc zero))))))))))) k = inr (inr (λ o e. none_is o e, not_those (own_text old 11) refl refl))
names (suc (suc (suc (suc (suc (suc (suc (suc (suc (suc (suc (suc zero)))))))))))) k = absurd (not_hole k.2.0)
names (suc (suc (suc (suc (suc (suc (suc (suc (suc (suc (suc (suc (suc zero))))))))))))) k = inr (inr (λ o e. none_is o e, not_those (own_text old 13) refl refl))
names (suc (suc (suc (suc (suc (suc (suc (suc (suc (suc (suc (suc (suc (suc zero)))))))))))))) k = inl (8, own (object.Local 0 1), (omega arith, omega arith), refl, refl)
names (suc (suc (suc (suc (suc (suc (suc (suc (suc (suc (suc (suc (suc (suc (suc zero))))))))))))))) k = inr (inr (λ o e. none_is o e, not_those (own_text old 15) refl refl))
names (suc (suc (suc (suc (suc (suc (suc (suc (suc (suc (suc (suc (suc (suc (suc (suc zero)))))))))))))))) k = inl (8, own (object.Local 0 1), (omega arith, omega arith), refl, refl)
names (suc (suc (suc (suc (suc (suc (suc (suc (suc (suc (suc (suc (suc (suc (suc (suc (suc zero))))))))))))))))) k = inr (inr (λ o e. none_is o e, not_those (own_text old 17) refl refl))
names (suc (suc (suc (suc (suc (suc (suc (suc (suc (suc (suc (suc (suc (suc (suc (suc (suc (suc zero)))))))))))))))))) k = inr (inr (λ o e. none_is o e, not_those (own_text old 18) refl refl))
names (suc (suc (suc (suc (suc (suc (suc (suc (suc (suc (suc (suc (suc (suc (suc (suc (suc (suc (suc t))))))))))))))))))) k = absurd (let a : (suc (suc (suc (suc (suc (suc (suc (suc (suc (suc (suc (suc (suc (suc (suc (suc (suc (suc (suc t))))))))))))))))))) < 19 = k.1 in omega (arith, a))

-- of the run only b is declared
the_b : (d : Declaration) → Among (event.Declaration d) (function_events old) → 8 ≤ d.name → d ≡ was
the_b d (inl e) le = absurd (let p : d.name ≡ 1 = ap name_of e in omega (arith, p, le))
the_b d (inr (inl e)) le = cc
the_b d (inr (inr (inl e))) le = absurd (let p : d.name ≡ 3 = ap name_of e in omega (arith, p, le))
the_b d (inr (inr (inr (inl e)))) le = cc
the_b d (inr (inr (inr (inr (inl e))))) le = cc
the_b d (inr (inr (inr (inr (inr (inl e)))))) le = cc
the_b d (inr (inr (inr (inr (inr (inr (inl e))))))) le = cc
the_b d (inr (inr (inr (inr (inr (inr (inr (inl e)))))))) le = cc
the_b d (inr (inr (inr (inr (inr (inr (inr (inr (inl e))))))))) le = cc
the_b d (inr (inr (inr (inr (inr (inr (inr (inr (inr (inl e)))))))))) le = cc
the_b d (inr (inr (inr (inr (inr (inr (inr (inr (inr (inr (inl e))))))))))) le = cc
the_b d (inr (inr (inr (inr (inr (inr (inr (inr (inr (inr (inr (inl e)))))))))))) le = cc
the_b d (inr (inr (inr (inr (inr (inr (inr (inr (inr (inr (inr (inr (inl e))))))))))))) le = cc
the_b d (inr (inr (inr (inr (inr (inr (inr (inr (inr (inr (inr (inr (inr k))))))))))))) le = absurd k

reuses : (x : Declaration) → Among (event.Declaration x) before → is_reused_of (found_as old was) (found_as old x) ≡ true → ⊥
reuses x (inl e) h = let p : x ≡ declared_first before = cc in true_false (sym (subst (λ z. is_reused_of (found_as old was) (found_as old z) ≡ true) p h))
reuses x (inr (inl e)) h = cc
reuses x (inr (inr (inl e))) h = let p : x ≡ declared_first (rest 2 before) = cc in true_false (sym (subst (λ z. is_reused_of (found_as old was) (found_as old z) ≡ true) p h))
reuses x (inr (inr (inr (inl e)))) h = cc
reuses x (inr (inr (inr (inr (inl e))))) h = cc
reuses x (inr (inr (inr (inr (inr k))))) h = absurd k

first_parameter : ParameterStands taken front 3
first_parameter = record { it = declared_first (rest 2 front); there = inr (inr (inl refl)); name = refl; local = refl; manner = refl; some = refl }

second_parameter : ParameterStands taken front 6
second_parameter = record { it = declared_first (rest 5 front); there = inr (inr (inr (inr (inr (inl refl))))); name = refl; local = refl; manner = refl; some = refl }

parameters : (u : ℕ) → Among u copy.parameters → ParameterStands taken front u
parameters u (inl e) = subst (ParameterStands taken front) (sym e) first_parameter
parameters u (inr (inl e)) = subst (ParameterStands taken front) (sym e) second_parameter
parameters u (inr (inr k)) = absurd k

distinct : (u w : ℕ) → Among u copy.parameters → Among w copy.parameters → own_text taken u ≡ own_text taken w → u ≡ w
distinct u w (inl e) (inl f) t = e ∙ sym f
distinct u w (inl e) (inr (inl f)) t = absurd (other_text (codes "a") (codes "p") refl refl (ap (own_text taken) (sym e) ∙ t ∙ ap (own_text taken) f))
distinct u w (inl e) (inr (inr k)) t = absurd k
distinct u w (inr (inl e)) (inl f) t = absurd (other_text (codes "p") (codes "a") refl refl (ap (own_text taken) (sym e) ∙ t ∙ ap (own_text taken) f))
distinct u w (inr (inl e)) (inr (inl f)) t = e ∙ sym f
distinct u w (inr (inl e)) (inr (inr k)) t = absurd k
distinct u w (inr (inr k)) l t = absurd k

-- `return b`
abbrev returned : Use
returned = record { name = 26; role = role.Operand; site = site.Elsewhere; constant = false; initial = false }

abbrev front_run : List Event
front_run = first 3 (rest 5 (function_events old))

abbrev rest_run : List Event
rest_run = first 3 (rest 8 (function_events old))

-- In place of the number the second parameter is named.
abbrev all_pieces : List Piece
all_pieces = stays front_run ∷ gap [] (first 1 (rest 11 (function_events taken))) ∷ stays rest_run ∷ []

fresh : (d : Declaration) → Among (event.Declaration d) (told_before all_pieces) → own_text taken 6 ≡ own_text old d.name → ⊥
fresh d (inl e) t = cc
fresh d (inr (inl e)) t = let p : d ≡ was = cc in other_text (codes "p") (codes "b") refl refl (t ∙ ap (λ (x : Declaration). own_text old x.name) p)
fresh d (inr (inr (inl e))) t = cc
fresh d (inr (inr (inr (inl e)))) t = cc
fresh d (inr (inr (inr (inr (inl e))))) t = cc
fresh d (inr (inr (inr (inr (inr (inl e)))))) t = cc
fresh d (inr (inr (inr (inr (inr (inr k)))))) t = absurd k

b_used : UsedInCopy old around copy taken (told_before all_pieces) (rest 15 (function_events taken)) was
b_used = inr (returned, inr (inl refl), refl, refl, refl)

used : (d : Declaration) → Among (event.Declaration d) (told_before all_pieces) → UsedInCopy old around copy taken (told_before all_pieces) (rest 15 (function_events taken)) d
used d (inl e) = cc
used d (inr (inl e)) = let p : d ≡ was = cc in subst (UsedInCopy old around copy taken (told_before all_pieces) (rest 15 (function_events taken))) (sym p) b_used
used d (inr (inr (inl e))) = cc
used d (inr (inr (inr (inl e)))) = cc
used d (inr (inr (inr (inr (inl e))))) = cc
used d (inr (inr (inr (inr (inr (inl e)))))) = cc
used d (inr (inr (inr (inr (inr (inr k)))))) = absurd k

pub example_copy : IsCopy old around copy taken
example_copy = record {
  pieces = all_pieces;
  before = before;
  behind = rest 11 (function_events old);
  head = front;
  tail = rest 15 (function_events taken);
  told = refl;
  new_told = refl;
  itself = old_itself;
  new_itself = taken_itself;
  order = (omega arith, (omega arith, (omega arith, (omega arith, (omega arith, (omega arith, (omega arith, (omega arith, (omega arith, omega arith)))))))));
  new_order = (omega arith, (omega arith, (omega arith, (omega arith, (omega arith, (omega arith, (omega arith, (omega arith, (omega arith, (omega arith, (omega arith, (omega arith, omega arith))))))))))));
  rises = λ x y a b lt. let e : suc (suc (suc (suc (suc x)))) < suc (suc (suc (suc (suc y)))) = omega (arith, lt) in e;
  some = omega arith;
  edge = ((omega arith, omega arith, (inl (omega arith), tt)), (omega arith, omega arith, (inr (omega arith), tt)));
  inner = omega arith;
  outer_end = omega arith;
  body = omega arith;
  close = omega arith;
  next = λ t k. refl;
  holes = λ h k. subst (λ (x : Replaced). (x.from < x.upto) × (x.from < 19) × IsEdge copy x.from) (sym (is_hole h k)) (omega arith, omega arith, (omega arith, omega arith, (inl (omega arith), tt)));
  named = λ h k. subst (λ (x : Replaced). Among x.parameter copy.parameters × (own_text taken (copy.place x.from) ≡ own_text taken x.parameter)) (sym (is_hole h k)) (inr (inl refl), refl);
  fresh = λ h k d l t. fresh d l (ap (λ (x : Replaced). own_text taken x.parameter) (sym (is_hole h k)) ∙ t);
  copied = (
    (
      tt,
      (
        record {
          name = (omega arith, omega arith, (inl (omega arith), tt));
          statement = (omega arith, omega arith, (inl (omega arith), tt));
          from = (omega arith, omega arith, (inr (omega arith), tt));
          source = tt;
          variety = refl;
          behind = omega arith;
          ends = inl (refl, refl);
        },
        (record { name = (omega arith, omega arith, (inl (omega arith), tt)); role = tt; specification = tt; initial = refl }, tt),
      ),
    ),
    (
      tt,
      (record { name = refl; specification = tt; constant = refl; initial = refl }, tt),
      (
        (
          tt,
          (
            record { name = (omega arith, omega arith, (inr (omega arith), tt)); role = tt; specification = tt; initial = refl },
            (record { name = (omega arith, omega arith, (inr (omega arith), tt)); role = tt; specification = tt; initial = refl }, tt),
          ),
        ),
        refl,
      ),
    ),
  );
  in_front = (
    record { name = omega arith; statement = omega arith; block = tt; scope = λ e. absurd (true_false e) },
    (tt, (record { name = omega arith; statement = omega arith; block = omega arith; scope = λ e. inl (omega arith) }, (omega arith, (omega arith, tt)))),
  );
  from_behind = (tt, (omega arith, tt));
  head_tells = (
    (omega arith, λ e. absurd (true_false e)),
    (
      tt,
      (
        (omega arith, λ e. record { listed = inl refl; entity = refl; block = refl; from = omega arith; to = refl }),
        (omega arith, (tt, ((omega arith, λ e. record { listed = inr (inl refl); entity = refl; block = refl; from = omega arith; to = refl }), (omega arith, (omega arith, tt))))),
      ),
    ),
  );
  tail_tells = (tt, (omega arith, tt));
  signature = (
    record { entity = inl refl; manner = refl; source = omega arith; parameter = λ e. absurd (true_false e) },
    (
      omega arith,
      (
        record { entity = inr refl; manner = refl; source = tt; parameter = λ e. (refl, omega arith) },
        (
          record { name = omega arith; object = object.Predeclared predeclared.Int; meant = refl; plain = tt; constant = refl; initial = refl },
          (
            omega arith,
            (
              record { entity = inr refl; manner = refl; source = tt; parameter = λ e. (refl, omega arith) },
              (
                record { name = omega arith; object = object.Predeclared predeclared.Int; meant = refl; plain = tt; constant = refl; initial = refl },
                (record { name = omega arith; object = object.Predeclared predeclared.Int; meant = refl; plain = tt; constant = refl; initial = refl }, tt),
              ),
            ),
          ),
        ),
      ),
    ),
  );
  members_once = refl;
  returns = (tt, (record { name = omega arith; elsewhere = refl; constant = refl; initial = refl; meant = inr (was, record { told = inr (inl refl); around = refl; new = refl }, refl) }, tt));
  texts = texts;
  steps = λ d e s r k l lt p q. absurd (true_false (ap (λ (x : Declaration). is_around copy x.block) (sym (the_b e l r.name.0)) ∙ q));
  parameters = parameters;
  distinct = distinct;
  free = λ f k. subst (λ (x : Free). x.old < 8) (sym (is_only f k)) (omega arith);
  once = λ f g k l e. is_only f k ∙ sym (is_only g l);
  names = λ t k n. names t k;
  apart =
      λ d k s p n u l e.
      let q : d ≡ was = the_b d k s.0 in
      not_those (own_text old d.name) (ap (λ (x : Declaration). same_text (own_text old x.name) (codes "a")) q) (ap (λ (x : Declaration). same_text (own_text old x.name) (codes "p")) q) u l e;
  reuses = λ d x k l s m b h. absurd (reuses x l (subst (λ z. is_reused_of (found_as old z) (found_as old x) ≡ true) (the_b d k s.0) h));
  used = λ d k n e. used d k;
}
