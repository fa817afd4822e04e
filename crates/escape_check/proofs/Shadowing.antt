-- Names that are spelled like a free local, as the program tells them.
use Rattle.std.proofs.Common.{◌≡◌, ◌∙◌, ℕ, ◌-◌, List, [], filter, map, ap}
use Rattle.std.specs.Prelude.{not, slice_get}
use Rattle.std.specs.List.{list_any}
use Rattle.go_tokens.specs.Spellings.{same_text}
use Rattle.go_typed.specs.Windows.{uses_from}
use Rattle.param_choose.specs.Locals.{Variable, declared_names, each_local, free_locals, once, variables_where}
use Rattle.param_choose.specs.Members.{Member, declared_between}
use Rattle.escape_check.specs.declared.member.Member.{Member as Found}
use Rattle.escape_check.specs.Names.{declaring_places, is_shadowing, shadowing}
use Rattle.escape_check.specs.Places.{Sources, first_of, local_text}
use Rattle.escape_check.specs.Shown.{member_view}
use Rattle.escape_check.proofs.Escaping.{any-map, filter-alike}

abbrev free_by : Found → ℕ → ℕ → ℕ → List (Variable ℕ)
free_by m first from upto =
    variables_where m.func.now.locals (λ n. not (declared_between first from upto (slice_get m.declared.now n))) (once [] (each_local (uses_from m.func.now.tokens from (upto - from))))

-- the free locals by where the window stands
pub free_told : (m : Found) (first from upto : ℕ) → first ≡ m.first → from ≡ m.from → upto ≡ m.upto → free_by m first from upto ≡ free_locals (member_view m)
free_told m first from upto a b c = ap (λ i. free_by m i from upto) a ∙ ap (λ i. free_by m m.first i upto) b ∙ ap (λ i. free_by m m.first m.from i) c

-- by the texts of the free locals
pub shadow_told : (s : Sources) (m : Member ℕ) (vs : List (Variable ℕ)) (ns : List ℕ) → vs ≡ free_locals m → ns ≡ declared_names m →
    first_of (declaring_places m (filter (λ n. list_any (λ w. same_text w (local_text s m n)) (map (λ v. local_text s m v.local) vs)) ns)) ≡ first_of (shadowing s m)
shadow_told s m vs ns e h =
    ap (λ xs. first_of (declaring_places m (filter (λ n. list_any (λ w. same_text w (local_text s m n)) (map (λ v. local_text s m v.local) xs)) ns))) e
    ∙ ap (λ xs. first_of (declaring_places m (filter (λ n. list_any (λ w. same_text w (local_text s m n)) (map (λ v. local_text s m v.local) (free_locals m))) xs))) h
    ∙ ap (λ xs. first_of (declaring_places m xs)) (filter-alike (λ n. list_any (λ w. same_text w (local_text s m n)) (map (λ v. local_text s m v.local) (free_locals m))) (is_shadowing s m)
    (λ n. any-map (λ (v : Variable ℕ). local_text s m v.local) (λ w. same_text w (local_text s m n)) (free_locals m)) (declared_names m))
