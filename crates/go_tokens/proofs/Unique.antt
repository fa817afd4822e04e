-- A text has one cutting.
use Rattle.std.proofs.Common.{◌≡◌, ℕ, ◌≤◌, not, Some, is_some, true, false, List, [], ◌∷◌, ◌++◌, length, append-nil, append_assoc, refl, sym, ap, ◌∙◌, arith}
use Rattle.std.specs.List.{list_all}
use Rattle.go_tokens.specs.Lexing.{width}
use Rattle.go_tokens.specs.declared.token.Token.{Token}
use Rattle.go_base.specs.declared.Span.{Span}
use Rattle.go_base.specs.declared.Fault.{Fault}
use Rattle.go_base.specs.declared.FaultCode.{FaultCode}
use Rattle.go_tokens.specs.Pieces.{is_piece, is_good, defect}
use Rattle.go_tokens.specs.Lexing.{join, IsLongest, Cut, Lexes, IsTokenFault, tokens, comments, span, covered}
use Rattle.go_tokens.proofs.Lists.{both, fronts}

same_piece : (p q r s : List ℕ) → is_piece p ≡ true → IsLongest p r → is_piece q ≡ true → IsLongest q s → p ++ r ≡ q ++ s → (p ≡ q) × (r ≡ s)
same_piece p q r s hp lp hq lq e =
    let one : length q ≤ length p = lp.by q s (sym e) hq in
    let other : length p ≤ length q = lq.by p r e hp in
    let same : length p ≡ length q = omega arith in
    fronts p q r s same e

no_piece : (p r : List ℕ) → is_piece p ≡ true → p ++ r ≡ [] → ⊥
no_piece [] r h e = cc
no_piece (x ∷ p) r h e = cc

-- two cuttings of one text
pub one_cut : (ps qs : List (List ℕ)) → Cut ps [] → Cut qs [] → join ps ++ [] ≡ join qs ++ [] → ps ≡ qs
one_cut [] [] a b e = refl
one_cut [] (q ∷ qs) a b e = absurd (no_piece q (join qs ++ []) b.0 (sym (append_assoc q (join qs) []) ∙ sym e))
one_cut (p ∷ ps) [] a b e = absurd (no_piece p (join ps ++ []) a.0 (sym (append_assoc p (join ps) []) ∙ e))
one_cut (p ∷ ps) (q ∷ qs) a b e =
    let same = same_piece p q _ _ a.0 a.1 b.0 b.1 (sym (append_assoc p (join ps) []) ∙ e ∙ append_assoc q (join qs) []) in
    let heads = same.0 in
    let tails = one_cut ps qs a.2 b.2 same.1 in
    cc

good_bad : (p q : List ℕ) → p ≡ q → is_good p ≡ true → is_good q ≡ false → ⊥
good_bad p q e h k = let f = ap is_good e in cc

-- two fronts of good pieces, each with a bad one behind it
pub one_bad : (ps qs : List (List ℕ)) (b r c s : List ℕ) → Cut ps (b ++ r) → Cut qs (c ++ s) → list_all is_good ps ≡ true → list_all is_good qs ≡ true → is_piece b ≡ true → IsLongest b r → is_piece c ≡ true → IsLongest c s → is_good b ≡ false → is_good c ≡ false → join ps ++ (b ++ r) ≡ join qs ++ (c ++ s) → (join ps ≡ join qs) × (b ≡ c)
one_bad [] [] b r c s x y gx gy pb lb pc lc nb nc e = (refl, (same_piece b c r s pb lb pc lc e).0)
one_bad [] (q ∷ qs) b r c s x y gx gy pb lb pc lc nb nc e =
    absurd (good_bad q b (sym (same_piece b q _ _ pb lb y.0 y.1 (e ∙ append_assoc q (join qs) (c ++ s))).0) (both _ _ gy).0 nb)
one_bad (p ∷ ps) [] b r c s x y gx gy pb lb pc lc nb nc e =
    absurd (good_bad p c ((same_piece p c _ _ x.0 x.1 pc lc (sym (append_assoc p (join ps) (b ++ r)) ∙ e)).0) (both _ _ gx).0 nc)
one_bad (p ∷ ps) (q ∷ qs) b r c s x y gx gy pb lb pc lc nb nc e =
    let same = same_piece p q _ _ x.0 x.1 y.0 y.1 (sym (append_assoc p (join ps) (b ++ r)) ∙ e ∙ append_assoc q (join qs) (c ++ s)) in
    let heads = same.0 in
    let more = one_bad ps qs b r c s x.2 y.2 (both (is_good p) _ gx).1 (both (is_good q) _ gy).1 pb lb pc lc nb nc same.1 in
    let tails : join ps ≡ join qs = more.0 in
    (cc, more.1)

pub no_bad : (ps qs : List (List ℕ)) (b r : List ℕ) → Cut ps (b ++ r) → Cut qs [] → list_all is_good qs ≡ true → is_piece b ≡ true → IsLongest b r → is_good b ≡ false → join ps ++ (b ++ r) ≡ join qs ++ [] → ⊥
no_bad [] [] b r x y g pb lb nb e = no_piece b r pb e
no_bad [] (q ∷ qs) b r x y g pb lb nb e =
    good_bad q b (sym (same_piece b q _ _ pb lb y.0 y.1 (e ∙ append_assoc q (join qs) [])).0) (both _ _ g).0 nb
no_bad (p ∷ ps) [] b r x y g pb lb nb e = no_piece p _ x.0 (sym (append_assoc p (join ps) (b ++ r)) ∙ e)
no_bad (p ∷ ps) (q ∷ qs) b r x y g pb lb nb e =
    let same = same_piece p q _ _ x.0 x.1 y.0 y.1 (sym (append_assoc p (join ps) (b ++ r)) ∙ e ∙ append_assoc q (join qs) []) in
    no_bad ps qs b r x.2 y.2 (both _ _ g).1 pb lb nb same.1

pub bad_of : (p : List ℕ) (code : FaultCode) → defect p ≡ Some code → is_good p ≡ false
bad_of p code e = ap (λ o. not (is_some o)) e

-- A text has one lexing, or one fault.
pub one_lexing : (file : ℕ) (text : List ℕ) (ts us : List Token) (cs ds : List Span) → Lexes file text ts cs → Lexes file text us ds → (ts ≡ us) × (cs ≡ ds)
one_lexing file text ts us cs ds x y =
    let same = one_cut x.pieces y.pieces x.cut y.cut (ap (λ l. l ++ []) (x.whole ∙ sym y.whole)) in
    (x.spelled ∙ ap (λ ps. tokens file 0 ps true) same ∙ sym y.spelled, x.noted ∙ ap (comments file 0) same ∙ sym y.noted)

some_same : (a b : FaultCode) → Some a ≡ Some b → a ≡ b
some_same a b e = cc

same_fault : (f g : Fault) → f.code ≡ g.code → f.span ≡ g.span → f ≡ g
same_fault f g e h = ap (λ c. let made : Fault = record { code = c; span = f.span } in made) e ∙ ap (λ s. let made : Fault = record { code = g.code; span = s } in made) h

pub one_fault : (file : ℕ) (text : List ℕ) (f g : Fault) → IsTokenFault file text f → IsTokenFault file text g → f ≡ g
one_fault file text f g x y =
    let same = one_bad x.pieces y.pieces x.bad x.rest y.bad y.rest x.cut y.cut x.good y.good x.piece x.longest y.piece y.longest (bad_of x.bad f.code x.wrong) (bad_of y.bad g.code y.wrong) (x.whole ∙ sym y.whole) in
    let codes : f.code ≡ g.code = some_same f.code g.code (sym x.wrong ∙ ap defect same.1 ∙ y.wrong) in
    same_fault f g codes (x.place ∙ ap (λ l. span file (width l) (covered f.code x.bad)) same.0 ∙ ap (λ c. span file (width (join y.pieces)) (covered c x.bad)) codes ∙ ap (λ b. span file (width (join y.pieces)) (covered g.code b)) same.1 ∙ sym y.place)

pub no_fault : (file : ℕ) (text : List ℕ) (ts : List Token) (cs : List Span) (f : Fault) → Lexes file text ts cs → IsTokenFault file text f → ⊥
no_fault file text ts cs f x y = no_bad y.pieces x.pieces y.bad y.rest y.cut x.cut x.good y.piece y.longest (bad_of y.bad f.code y.wrong) (y.whole ∙ sym x.whole ∙ sym (append-nil (join x.pieces)))
