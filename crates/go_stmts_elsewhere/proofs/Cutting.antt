-- Frames that are related at some tokens say there what two frames say that are related at all tokens.
use Rattle.std.proofs.Common.{◌≡◌, ◌∙◌, ℕ, Bool, true, false, List, Option, Some, None, refl, sym, ap, subst}
use Rattle.go_tree.specs.declared.object.Object.{Object}
use Rattle.go_tree.specs.declared.object.Object.TheVariants as object
use Rattle.go_exprs_rules.specs.Scopes.{Needed, Scope}
use Rattle.go_stmts_defs.specs.Frames.{Frame}
use Rattle.go_package_alike.specs.Frames.{SameFrames}
use Rattle.go_package_alike.specs.Scopes.{Says, said, MeanSame}
use Rattle.go_exprs_elsewhere.specs.Elsewhere.{Moves, referent_moved}
use Rattle.go_stmts_elsewhere.specs.Frames.{ObjectAlong, AlongFrames}
use Rattle.go_stmts_elsewhere.specs.Marked.{AlongAt, RelatedAt}

-- a token that doesn't count means nothing
abbrev cut : Bool → Option Object → Option Object
cut true o = o
cut false o = None

-- one of two texts
abbrev chosen : Bool → List ℕ → List ℕ → List ℕ
chosen true x y = x
chosen false x y = y

chosen_first : (b : Bool) (x y : List ℕ) → b ≡ true → x ≡ chosen b x y
chosen_first true x y e = refl
chosen_first false x y e = cc

chosen_same : (b : Bool) (x y : List ℕ) → (b ≡ true → y ≡ x) → y ≡ chosen b x y
chosen_same true x y e = e refl
chosen_same false x y e = refl

-- ---- objects

mean_same : (a b : Says) → ((n : Needed) (o : Object) → b.sorts n o ≡ a.sorts n o) → ((n : ℕ) → b.referents n ≡ a.referents n) → (o : Option Object) → MeanSame a b o o
mean_same a b e d None = tt
mean_same a b e d (Some object.Import) = tt
mean_same a b e d (Some (object.Predeclared p)) = refl
mean_same a b e d (Some (object.Package n)) = (λ k. e k (object.Package n), d n)
mean_same a b e d (Some (object.Local f n)) = (λ k. e k (object.Local f n), refl)

cut_same : (a b : Says) → ((n : Needed) (o : Object) → b.sorts n o ≡ a.sorts n o) → ((n : ℕ) → b.referents n ≡ a.referents n) → (o : Option Object) (x : Bool) → x ≡ true → MeanSame a b (cut x o) o
cut_same a b e d o true h = mean_same a b e d o
cut_same a b e d o false h = cc

in_scopes : (m : Moves) (l : ℕ → Bool) (s t u v : Scope) → ((n : Needed) (o : Object) → u.sorts n o ≡ s.sorts n o) → ((n : ℕ) → u.referents n ≡ s.referents n) → ((n : Needed) (o : Object) → v.sorts n o ≡ t.sorts n o)
    → ((n : ℕ) → v.referents n ≡ t.referents n) → (o q : Option Object) → ObjectAlong m l s t o q → ObjectAlong m l u v o q
in_scopes m l s t u v e d a b None None w = tt
in_scopes m l s t u v e d a b (Some object.Import) (Some object.Import) w = tt
in_scopes m l s t u v e d a b (Some (object.Predeclared p)) (Some (object.Predeclared q)) w = w
in_scopes m l s t u v e d a b (Some (object.Package i)) (Some (object.Package j)) w =
    (λ n. a n (object.Package j) ∙ w.0 n ∙ sym (e n (object.Package i)), b j ∙ w.1 ∙ ap (referent_moved m) (sym (d i)))
in_scopes m l s t u v e d a b (Some (object.Local f i)) (Some (object.Local g j)) w = w
in_scopes m l s t u v e d a b o q w = absurd w

cut_along : (m : Moves) (l : ℕ → Bool) (u v : Scope) (o q : Option Object) (x : Bool) → (x ≡ true → ObjectAlong m l u v o q) → ObjectAlong m l u v (cut x o) (cut x q)
cut_along m l u v o q true w = w refl
cut_along m l u v o q false w = tt

module _ (p q : ℕ → Bool) (m : Moves) (l : ℕ → Bool) (f g : Frame) (c : RelatedAt p q m l f g) where
  abbrev pub old : Frame
  old = record f { around = record (f.around) { texts = λ i. chosen (p i) (f.around.texts i) (g.around.texts (m.token i)); characters = λ i. chosen (p i) (f.around.characters i) (g.around.characters (m.token i)); objects = λ i. cut (p i) (f.around.objects i) } }

  abbrev pub new : Frame
  new = record g { around = record (g.around) { objects = λ j. cut (q j) (g.around.objects j) } }

  pub old_same : SameFrames p old f
  old_same = record {
    around = record {
      rights = refl;
      iota = refl;
      needed = refl;
      limits = refl;
      tokens = record {
        texts = λ i e. chosen_first (p i) (f.around.texts i) (g.around.texts (m.token i)) e;
        characters = λ i e. chosen_first (p i) (f.around.characters i) (g.around.characters (m.token i)) e;
        objects = λ i e. cut_same (said old.around) (said f.around) (λ n o. refl) (λ n. refl) (f.around.objects i) (p i) e;
      };
    };
    locals = refl;
    types = refl;
    source = refl;
    repeats = c.old_repeats;
    tag = refl;
    results = refl;
  }

  pub new_same : SameFrames q new g
  new_same = record {
    around = record {
      rights = refl;
      iota = refl;
      needed = refl;
      limits = refl;
      tokens = record {
        texts = λ i e. refl;
        characters = λ i e. refl;
        objects = λ i e. cut_same (said new.around) (said g.around) (λ n o. refl) (λ n. refl) (g.around.objects i) (q i) e;
      };
    };
    locals = refl;
    types = refl;
    source = refl;
    repeats = c.new_repeats;
    tag = refl;
    results = refl;
  }

  each_object : (i : ℕ) → ObjectAlong m l old.around new.around (old.around.objects i) (new.around.objects (m.token i))
  each_object i =
      subst (λ b. ObjectAlong m l old.around new.around (cut (p i) (f.around.objects i)) (cut b (g.around.objects (m.token i)))) (sym (c.marks i))
      (cut_along m l old.around new.around (f.around.objects i) (g.around.objects (m.token i)) (p i)
      (λ e. in_scopes m l f.around g.around old.around new.around (λ n o. refl) (λ n. refl) (λ n o. refl) (λ n. refl) (f.around.objects i) (g.around.objects (m.token i)) (c.objects i e)))

  pub frames_along : AlongFrames m l old new
  frames_along = record {
    rights = c.rights;
    iota = c.iota;
    needed = c.needed;
    limits = c.limits;
    texts = λ i s. chosen_same (p i) (f.around.texts i) (g.around.texts (m.token i)) (λ e. c.texts i e s);
    characters = λ i s. chosen_same (p i) (f.around.characters i) (g.around.characters (m.token i)) (λ e. c.characters i e s);
    objects = each_object;
    apart = c.apart;
    room = c.room;
    locals = c.locals;
    types = c.types;
    source = c.source;
    repeats = c.repeats;
    tag = c.tag;
    results = c.results;
  }

  pub related_along : AlongAt p q m l f g
  related_along = record { old = old; new = new; old_same = old_same; new_same = new_same; along = frames_along }
