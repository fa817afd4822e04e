-- Values, level by level, and lists of them.
use Rattle.std.proofs.Common.{◌≡◌, ℕ, zero, suc, ◌<◌, ◌≤◌, List, [], ◌∷◌, Vec, Global, None, slice_get, slice_set, get_or, length, ℤ, refl, sym, ap, ◌∙◌, arith, rules}
use Rattle.std.specs.Option.{unwrap_or}
use Rattle.std.specs.declared.rc.Rc.{Rc}
use Rattle.std.proofs.lemmas.List.{map-set}
use Rattle.std.proofs.lemmas.Option.{unwrap_or-slice_get}
use Rattle.go_meaning.specs.Values as meant
use Rattle.go_meaning.specs.Values.{valued, listed, nth, parts_of}
use Rattle.go_values.specs.Views.{view, views}
use Rattle.go_values.specs.declared.value.Segment.{Segment}
use Rattle.go_values.specs.declared.value.Value.{Value, Whole, Parts, Slice, NilFunction, the_lemmas}

pub view_parts : (v : Rc (Vec Value Global) Global) → view (Parts v) ≡ meant.Parts (valued (views v.value.items))
view_parts v = search (rules, the_lemmas)

pub view_nil : view NilFunction ≡ meant.NilFunction
view_nil = search (rules, the_lemmas)

pub view_whole : (z : ℤ) → view (Whole z) ≡ meant.Whole z
view_whole z = search (rules, the_lemmas)

pub view_slice : (s : Segment) → view (Slice s) ≡ meant.Slice s.array s.start s.length s.capacity
view_slice s = search (rules, the_lemmas)

pub listed_valued : (vs : List meant.Value) → listed (valued vs) ≡ vs
listed_valued [] = refl
listed_valued (v ∷ vs) = ap (λ us. v ∷ us) (listed_valued vs)

pub parts_are : (u : Value) (v : Rc (Vec Value Global) Global) → u ≡ Parts v → parts_of (view u) ≡ views v.value.items
parts_are u v e = ap (λ x. parts_of (view x)) e ∙ ap parts_of (view_parts v) ∙ listed_valued (views v.value.items)

pub views_set : (vs : List Value) (i : ℕ) (v : Value) → views (slice_set vs i v) ≡ slice_set (views vs) i (view v)
views_set vs i v = map-set view vs i v

pub set_beyond : (vs : List Value) (i : ℕ) (v : meant.Value) → length vs ≤ i → slice_set (views vs) i v ≡ views vs
set_beyond [] i v h = refl
set_beyond (x ∷ xs) zero v h = absurd (omega arith)
set_beyond (x ∷ xs) (suc i) v h = ap (λ us. view x ∷ us) (set_beyond xs i v (omega arith))

pub nth_none : (vs : List meant.Value) (i : ℕ) → slice_get vs i ≡ None → nth vs i ≡ meant.NilFunction
nth_none vs i e = sym (unwrap_or-slice_get vs i meant.NilFunction) ∙ ap (λ o. unwrap_or o meant.NilFunction) e

pub nth_within : (vs : List Value) (i : ℕ) (d : Value) → i < length vs → view (get_or vs i d) ≡ nth (views vs) i
nth_within [] i d h = absurd (omega arith)
nth_within (v ∷ vs) zero d h = refl
nth_within (v ∷ vs) (suc i) d h = nth_within vs i d (omega arith)

pub nth_beyond : (vs : List Value) (i : ℕ) → length vs ≤ i → nth (views vs) i ≡ meant.NilFunction
nth_beyond [] i h = refl
nth_beyond (v ∷ vs) zero h = absurd (omega arith)
nth_beyond (v ∷ vs) (suc i) h = nth_beyond vs i (omega arith)
