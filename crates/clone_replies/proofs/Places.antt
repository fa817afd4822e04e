-- What a listing shows of windows is the same over other words for types, and the program's bytes are those of the definition.
use Rattle.std.proofs.Common.{◌≡◌, ◌∙◌, ℕ, suc, false, List, [], ◌∷◌, ◌++◌, length, map, Option, slice_get, ap, refl, sym}
use Rattle.std.proofs.lemmas.List.{length-map}
use Rattle.std.specs.Prelude.{unwrap_or, codes}
use Rattle.std.specs.Fmt.{decimal}
use Rattle.std.specs.List.{flat_map}
use Rattle.go_base.specs.declared.Span.{Span}
use Rattle.go_base.specs.Optional.{◌>>=◌}
use Rattle.go_typed.specs.declared.window.Window.{Window}
use Rattle.go_typed.specs.Windows.{Range}
use Rattle.clone_window.specs.Masses.{masses}
use Rattle.clone_window.specs.Spans.{ByteRange, bytes_of, nowhere, places_from, span_there}
use Rattle.clone_window.specs.Fields.{FieldNames}
use Rattle.clone_script.specs.declared.listing.ListedClass.{ListedClass}
use Rattle.clone_script.specs.Listing as script
use Rattle.clone_script.specs.Listing.{member_line, class_reply}
use Rattle.clone_replies.specs.Classes.{Listed, ShownClass, bytes_over, shown_class, statements_in, window_bytes}
use Rattle.clone_replies.specs.Listing.{class_text, classes_text, listing_text, member_text, shown}
use Rattle.clone_replies.proofs.Mapped.{body-mapped, masses-mapped, range-mapped, statements-at-mapped}

-- ---- over other words for types

module _ {T U : Type 0} (g : T → U) (fields : FieldNames U) where
  abbrev pub listed-mapped : Listed T → Listed U
  listed-mapped l = record { names = l.names; files = l.files; fields = fields; bodies = map (body-mapped g) l.bodies }

  bytes-mapped : (l : Listed T) (w : Window) → window_bytes (listed-mapped l) w ≡ window_bytes l w
  bytes-mapped l w =
      ap (λ ps. unwrap_or (bytes_over l.files w.func ps) nowhere) (statements-at-mapped g l.bodies w)
      ∙ ap (λ (r : Option Range). unwrap_or (r >>= λ x. slice_get (places_from 0 l.files) w.func >>= span_there l.files x) nowhere) (range-mapped g (statements_in l w))

  all-bytes-mapped : (l : Listed T) (ws : List Window) → map (window_bytes (listed-mapped l)) ws ≡ map (window_bytes l) ws
  all-bytes-mapped l [] = refl
  all-bytes-mapped l (w ∷ ws) = ap (λ r. r ∷ map (window_bytes (listed-mapped l)) ws) (bytes-mapped l w) ∙ ap (λ rs. window_bytes l w ∷ rs) (all-bytes-mapped l ws)

  abbrev shown-by : List ByteRange → ℕ → ℕ → ShownClass
  shown-by rs n m = record { members = rs; statements = n; mass = m }

  pub shown-mapped : (l : Listed T) (ws : List Window) → shown_class (listed-mapped l) ws ≡ shown_class l ws
  shown-mapped l [] = refl
  shown-mapped l (w ∷ ws) =
      ap (λ rs. shown-by rs w.count (masses false (statements_in (listed-mapped l) w))) (all-bytes-mapped l (w ∷ ws))
      ∙ ap (λ ps. shown-by (map (window_bytes l) (w ∷ ws)) w.count (masses false ps)) (statements-at-mapped g l.bodies w)
      ∙ ap (shown-by (map (window_bytes l) (w ∷ ws)) w.count) (masses-mapped g false (statements_in l w))

  pub all-shown-mapped : (l : Listed T) (wss : List (List Window)) → map (shown_class (listed-mapped l)) wss ≡ map (shown_class l) wss
  all-shown-mapped l [] = refl
  all-shown-mapped l (ws ∷ wss) = ap (λ x. x ∷ map (shown_class (listed-mapped l)) wss) (shown-mapped l ws) ∙ ap (λ xs. shown_class l ws ∷ xs) (all-shown-mapped l wss)

-- ---- the text of what is shown

members-text : (names : List (List ℕ)) (ss : List Span) → flat_map (member_line names) ss ≡ flat_map (member_text names) (map bytes_of ss)
members-text names [] = refl
members-text names (s ∷ ss) = ap (λ bs. member_line names s ++ bs) (members-text names ss)

pub class-shown : (names : List (List ℕ)) (n : ℕ) (x : ListedClass) → script.class_text names n x ≡ class_text names n (shown x)
class-shown names n x =
    ap (λ bs. script.class_head n x ++ bs) (members-text names x.members.items)
    ∙ ap (λ k. (codes "class " ++ decimal n ++ codes " members " ++ decimal k
    ++ codes " statements " ++ decimal x.statements ++ codes " mass " ++ decimal x.mass ++ codes "\n") ++ flat_map (member_text names) (map bytes_of x.members.items))
    (sym (length-map x.members.items bytes_of))

classes-shown : (names : List (List ℕ)) (n : ℕ) (xs : List ListedClass) → script.classes_text names n xs ≡ classes_text names n (map shown xs)
classes-shown names n [] = refl
classes-shown names n (x ∷ xs) = ap (λ bs. bs ++ script.classes_text names (suc n) xs) (class-shown names n x) ∙ ap (λ bs. class_text names n (shown x) ++ bs) (classes-shown names (suc n) xs)

reply-shown : (names : List (List ℕ)) (xs : List ListedClass) → class_reply names xs ≡ listing_text names (map shown xs)
reply-shown names xs =
    ap (λ k. codes "classes " ++ decimal k ++ codes "\n" ++ script.classes_text names 1 xs) (sym (length-map xs shown))
    ∙ ap (λ bs. codes "classes " ++ decimal (length (map shown xs)) ++ codes "\n" ++ bs) (classes-shown names 1 xs)

pub reply-of : (names told : List (List ℕ)) (xs : List ListedClass) (ys : List ShownClass) → names ≡ told → map shown xs ≡ ys → class_reply names xs ≡ listing_text told ys
reply-of names told xs ys e f = reply-shown names xs ∙ ap (λ ns. listing_text ns (map shown xs)) e ∙ ap (listing_text told) f
