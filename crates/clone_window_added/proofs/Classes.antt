-- Windows of functions under other numbers, and their classes.
use Rattle.std.proofs.Common.{◌≡◌, ◌∙◌, ℕ, suc, ◌+◌, Bool, true, false, List, [], ◌∷◌, ◌++◌, map, ap, refl, sym}
use Rattle.std.proofs.lemmas.List.{map-append}
use Rattle.std.specs.Prelude.{◌-◌, ◌||◌, not, if◌then◌else◌, filter, length, min, nat_le}
use Rattle.std.specs.List.{AllByRecursion, list_any, range_with_len}
use Rattle.go_typed.specs.declared.window.Window.{Window}
use Rattle.go_typed.specs.Forms.{is_statement_list, values_count}
use Rattle.go_typed.specs.Trees.{Typed, typed, Typeds, none, more, skip}
use Rattle.clone_window.specs.declared.bounds.Bounds.{Bounds}
use Rattle.clone_window.specs.Masses.{each_mass}
use Rattle.clone_window.specs.Windows.{run_at, is_heavy, windows_at, windows_from, list_count, windows_in, windows_among, windows_along}
use Rattle.clone_classes.specs.Classes.{class_led_by, classes_from, classes}
use Rattle.clone_window_added.specs.Reworded.{window_in}

-- ---- windows in a function of another number

module _ (at : ℕ → ℕ) (bounds : Bounds) (func : ℕ) where
  abbrev to : List Window → List Window
  to ws = map (window_in at) ws

  each_run : (list at_first : ℕ) (ns : List ℕ) → map (run_at (at func) list at_first) ns ≡ to (map (run_at func list at_first) ns)
  each_run list f [] = refl
  each_run list f (n ∷ ns) = ap (λ ws. run_at (at func) list f n ∷ ws) (each_run list f ns)

  from_here : (list ahead index : ℕ) (ms : List ℕ) → windows_from bounds (at func) list ahead index ms ≡ to (windows_from bounds func list ahead index ms)
  from_here list ahead index ms =
      ap (λ ws. if nat_le ahead index then ws else []) (each_run list (index - ahead) (filter (is_heavy bounds ms) (range_with_len bounds.fewest (suc (min 32 (length ms)) - bounds.fewest))))
      ∙ by (nat_le ahead index) (windows_at bounds func list (index - ahead) ms)
    where
      by : (b : Bool) (ws : List Window) → (if b then to ws else []) ≡ to (if b then ws else [])
      by true ws = refl
      by false ws = refl

  module _ {T : Type 0} where
    mutual
      pub in_tree : (k : ℕ) (x : Typed T) → windows_in bounds (at func) k x ≡ to (windows_in bounds func k x)
      in_tree k (typed f i j l ps) =
          ap (λ ws. if is_statement_list f then ws else windows_among bounds (at func) k ps) (along k (values_count f) (suc k) 0 ps)
          ∙ ap (λ ws. if is_statement_list f then to (windows_along bounds func k (values_count f) (suc k) 0 ps) else ws) (among k ps)
          ∙ by (is_statement_list f) (windows_along bounds func k (values_count f) (suc k) 0 ps) (windows_among bounds func k ps)
        where
          by : (b : Bool) (us vs : List Window) → (if b then to us else to vs) ≡ to (if b then us else vs)
          by true us vs = refl
          by false us vs = refl

      among : (k : ℕ) (ps : Typeds T) → windows_among bounds (at func) k ps ≡ to (windows_among bounds func k ps)
      among k none = refl
      among k (more p ps) =
          ap (λ ws. ws ++ windows_among bounds (at func) (k + list_count p) ps) (in_tree k p) ∙ ap (λ ws. to (windows_in bounds func k p) ++ ws) (among (k + list_count p) ps)
          ∙ sym (map-append (window_in at) (windows_in bounds func k p) (windows_among bounds func (k + list_count p) ps))
      among k (skip ps) = among k ps

      along : (list ahead k index : ℕ) (ps : Typeds T) → windows_along bounds (at func) list ahead k index ps ≡ to (windows_along bounds func list ahead k index ps)
      along list ahead k index none = refl
      along list ahead k index (more p ps) =
          let own = windows_from bounds func list ahead index (each_mass (more p ps)) in
          let inner = windows_in bounds func k p in
          let rest = windows_along bounds func list ahead (k + list_count p) (suc index) ps in
          ap (λ ws. ws ++ windows_in bounds (at func) k p ++ windows_along bounds (at func) list ahead (k + list_count p) (suc index) ps) (from_here list ahead index (each_mass (more p ps)))
          ∙ ap (λ ws. to own ++ ws ++ windows_along bounds (at func) list ahead (k + list_count p) (suc index) ps) (in_tree k p)
          ∙ ap (λ ws. to own ++ to inner ++ ws) (along list ahead (k + list_count p) (suc index) ps)
          ∙ ap (λ ws. ws ++ to rest) (sym (map-append (window_in at) own inner)) ∙ sym (map-append (window_in at) (own ++ inner) rest)
      along list ahead k index (skip ps) = along list ahead k index ps

-- ---- classes

module _ {A B : Type 0} (to : A → B) (same : A → A → Bool) (other : B → B → Bool) (P : A → Type 0) (keeps : (x y : A) → P x → P y → other (to x) (to y) ≡ same x y) where
  any_kept : (x : A) (ys : List A) → P x → AllByRecursion P ys → list_any (other (to x)) (map to ys) ≡ list_any (same x) ys
  any_kept x [] p h = refl
  any_kept x (y ∷ ys) p h = ap (λ b. b || list_any (other (to x)) (map to ys)) (keeps x y p h.0) ∙ ap (λ b. same x y || b) (any_kept x ys p h.1)

  filter_kept : (x : A) (ys : List A) → P x → AllByRecursion P ys → filter (other (to x)) (map to ys) ≡ map to (filter (same x) ys)
  filter_kept x [] p h = refl
  filter_kept x (y ∷ ys) p h =
      ap (λ b. if b then to y ∷ filter (other (to x)) (map to ys) else filter (other (to x)) (map to ys)) (keeps x y p h.0)
      ∙ ap (λ zs. if same x y then to y ∷ zs else zs) (filter_kept x ys p h.1) ∙ by (same x y) (filter (same x) ys)
    where
      by : (b : Bool) (zs : List A) → (if b then to y ∷ map to zs else map to zs) ≡ map to (if b then y ∷ zs else zs)
      by true zs = refl
      by false zs = refl

  led_kept : (earlier : List A) (x : A) (later : List A) → AllByRecursion P earlier → P x → AllByRecursion P later
      → class_led_by other (map to earlier) (to x) (map to later) ≡ map (map to) (class_led_by same earlier x later)
  led_kept earlier x later h p k =
      ap (λ b. if b || not (list_any (other (to x)) (map to later)) then [] else (to x ∷ filter (other (to x)) (map to later)) ∷ []) (any_kept x earlier p h)
      ∙ ap (λ b. if list_any (same x) earlier || not b then [] else (to x ∷ filter (other (to x)) (map to later)) ∷ []) (any_kept x later p k)
      ∙ ap (λ zs. if list_any (same x) earlier || not (list_any (same x) later) then [] else (to x ∷ zs) ∷ []) (filter_kept x later p k)
      ∙ by (list_any (same x) earlier || not (list_any (same x) later)) (filter (same x) later)
    where
      by : (b : Bool) (zs : List A) → (if b then [] else (to x ∷ map to zs) ∷ []) ≡ map (map to) (if b then [] else (x ∷ zs) ∷ [])
      by true zs = refl
      by false zs = refl

  one_behind : (xs : List A) (x : A) → AllByRecursion P xs → P x → AllByRecursion P (xs ++ x ∷ [])
  one_behind [] x h p = (p, tt)
  one_behind (y ∷ ys) x h p = (h.0, one_behind ys x h.1 p)

  from_kept : (earlier later : List A) → AllByRecursion P earlier → AllByRecursion P later → classes_from other (map to earlier) (map to later) ≡ map (map to) (classes_from same earlier later)
  from_kept earlier [] h k = refl
  from_kept earlier (x ∷ xs) h k =
      ap (λ cs. cs ++ classes_from other (map to earlier ++ to x ∷ []) (map to xs)) (led_kept earlier x xs h k.0 k.1)
      ∙ ap (λ es. map (map to) (class_led_by same earlier x xs) ++ classes_from other es (map to xs)) (sym (map-append to earlier (x ∷ [])))
      ∙ ap (λ cs. map (map to) (class_led_by same earlier x xs) ++ cs) (from_kept (earlier ++ x ∷ []) xs (one_behind earlier x h k.0) k.1)
      ∙ sym (map-append (map to) (class_led_by same earlier x xs) (classes_from same (earlier ++ x ∷ []) xs))

  pub classes_kept : (xs : List A) → AllByRecursion P xs → classes other (map to xs) ≡ map (map to) (classes same xs)
  classes_kept xs h = from_kept [] xs tt h
