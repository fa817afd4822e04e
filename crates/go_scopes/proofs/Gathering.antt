-- The members of some events and of one more behind them.
use Rattle.std.proofs.Common.{◌≡◌, ◌∙◌, ◌<◌, ◌+◌, ℕ, refl, sym, ap, subst, Bool, true, false, ◌&&◌, ◌||◌, nat_eq, List, [], ◌∷◌, ◌++◌, length, take, get_or, add-one, arith}
use Rattle.std.proofs.Math.Seq.{take-suc}
use Rattle.go_scopes.specs.declared.members.Members.{Members}
use Rattle.go_scopes.specs.Gathered.{Gathers}
use Rattle.std.specs.Cmp.Lexicographic.{pointwise}
use Rattle.go_tokens.specs.Tokens.{TokenList}
use Rattle.go_tokens.specs.Spellings.{same_text}
use Rattle.go_tree.specs.declared.event.Member.{Member}
use Rattle.go_tree.specs.declared.event.Event.{Event}
use Rattle.go_tree.specs.declared.event.Event.TheVariants as event
use Rattle.go_tree.specs.Units.{word}
use Rattle.go_tree.specs.Duplicates.{same_member, has_member}

pub same_text-pointwise : (a b : List ℕ) → pointwise nat_eq a b ≡ same_text b a
same_text-pointwise [] [] = refl
same_text-pointwise [] (y ∷ b) = refl
same_text-pointwise (x ∷ a) [] = refl
same_text-pointwise (x ∷ a) (y ∷ b) = let rest : pointwise nat_eq a b ≡ same_text b a = same_text-pointwise a b in grind (arith, rest)

or-assoc : (a b c : Bool) → ((a || b) || c) ≡ (a || (b || c))
or-assoc true b c = refl
or-assoc false b c = refl

has_member-append : (m : Member) (g : ℕ) (w : List ℕ) (ts : TokenList) (es fs : List Event) → has_member m g w ts (es ++ fs) ≡ (has_member m g w ts es || has_member m g w ts fs)
has_member-append m g w ts [] fs = refl
has_member-append m g w ts (event.Member o h x ∷ es) fs =
    ap (λ b. (same_member m o && nat_eq g h && same_text w (word ts x)) || b) (has_member-append m g w ts es fs)
    ∙ sym (or-assoc (same_member m o && nat_eq g h && same_text w (word ts x)) (has_member m g w ts es) (has_member m g w ts fs))
has_member-append m g w ts (e ∷ es) fs = has_member-append m g w ts es fs

or-swap : (a b : Bool) → (a || (b || false)) ≡ (b || a)
or-swap true true = refl
or-swap true false = refl
or-swap false true = refl
or-swap false false = refl

pub has_member-one : (m o : Member) (g h x : ℕ) (w v : List ℕ) (ts : TokenList) (es : List Event) (e : Event) → e ≡ event.Member o h x → v ≡ word ts x → has_member m g w ts (es ++ e ∷ []) ≡ ((same_member m o && nat_eq g h && same_text w v) || has_member m g w ts es)
has_member-one m o g h x w v ts es e same text =
    ap (λ y. has_member m g w ts (es ++ y ∷ [])) same
    ∙ has_member-append m g w ts es (event.Member o h x ∷ [])
    ∙ or-swap (has_member m g w ts es) (same_member m o && nat_eq g h && same_text w (word ts x))
    ∙ ap (λ t. (same_member m o && nat_eq g h && same_text w t) || has_member m g w ts es) (sym text)

or-none : (b : Bool) → (b || false) ≡ b
or-none true = refl
or-none false = refl

no_member : (m : Member) (g : ℕ) (w : List ℕ) (ts : TokenList) (e : Event) → ((o : Member) (h x : ℕ) → e ≡ event.Member o h x → ⊥) → has_member m g w ts (e ∷ []) ≡ false
no_member m g w ts (event.Member o h x) apart = absurd (apart o h x refl)
no_member m g w ts e apart = refl

pub has_member-other : (m : Member) (g : ℕ) (w : List ℕ) (ts : TokenList) (es : List Event) (e : Event) → ((o : Member) (h x : ℕ) → e ≡ event.Member o h x → ⊥) → has_member m g w ts (es ++ e ∷ []) ≡ has_member m g w ts es
has_member-other m g w ts es e apart =
    has_member-append m g w ts es (e ∷ [])
    ∙ ap (λ b. has_member m g w ts es || b) (no_member m g w ts e apart)
    ∙ or-none (has_member m g w ts es)

pub gathers-more : (ms : Members) (ts : TokenList) (i : ℕ) (es read : List Event) (d : Event) → read ≡ es → i < length read → Gathers ms ts (take i es ++ get_or read i d ∷ []) → Gathers ms ts (take (i + 1) es)
gathers-more ms ts i es read d same inside told m g w =
    told m g w
    ∙ ap (λ l. has_member m g w.now ts (take i es ++ get_or l i d ∷ [])) same
    ∙ ap (λ l. has_member m g w.now ts l) (sym (take-suc es i d (subst (λ l. i < length l) same inside)))
    ∙ ap (λ k. has_member m g w.now ts (take k es)) (sym (add-one i))
