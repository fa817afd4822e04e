-- Frames that are related stay so behind statements that declare no types.
use Rattle.std.proofs.Common.{◌≡◌, ◌∙◌, ℕ, Bool, Option, Some, None, refl, sym, ap, subst}
use Rattle.go_tree.specs.declared.object.Object.{Object}
use Rattle.go_tree.specs.declared.object.Object.TheVariants as object
use Rattle.go_exprs_rules.specs.Scopes.{Needed, Scope}
use Rattle.go_package_alike.specs.Scopes.{Says, said, MeanSame, SaySame}
use Rattle.go_stmts_defs.specs.Frames.{Frame, local_stands}
use Rattle.go_exprs_elsewhere.specs.Elsewhere.{Moves}
use Rattle.go_stmts_elsewhere.specs.Declaring.{RelatedBehind, SharedAlong}
use Rattle.go_stmts_elsewhere.specs.Frames.{has_room}
use Rattle.go_stmts_elsewhere.specs.Gaps.{behind}
use Rattle.go_stmts_elsewhere.specs.Marked.{AlongAt}
use Rattle.go_stmts_elsewhere.specs.Replaced.{SaysAs, unsourced}
use Rattle.go_stmts_elsewhere.proofs.Behind.{rest_left}

-- ---- what surrounds a function

mean_moved : (a b c : Says) → ((n : Needed) (o : Object) → c.sorts n o ≡ b.sorts n o) → ((n : ℕ) → c.referents n ≡ b.referents n) → (o q : Option Object) → MeanSame a b o q → MeanSame a c o q
mean_moved a b c s r None None e = e
mean_moved a b c s r (Some object.Import) (Some object.Import) e = e
mean_moved a b c s r (Some (object.Predeclared m)) (Some (object.Predeclared n)) e = e
mean_moved a b c s r (Some (object.Package m)) (Some (object.Package n)) e = ((λ need. s need (object.Package n) ∙ e.0 need), r n ∙ e.1)
mean_moved a b c s r (Some (object.Local f m)) (Some (object.Local g n)) e = ((λ need. s need (object.Local g n) ∙ e.0 need), e.1)
mean_moved a b c s r o q e = absurd e

says_same : (p : ℕ → Bool) (s : Scope) (f g : Frame) → SaySame p s f.around → SaysAs f.around g → g.around.rights ≡ f.around.rights → g.around.iota ≡ f.around.iota → SaySame p s g.around
says_same p s f g c w r i = record {
  rights = r ∙ c.rights;
  iota = i ∙ c.iota;
  needed = w.needed ∙ c.needed;
  limits = w.limits ∙ c.limits;
  tokens = record {
    texts = λ k e. w.texts k ∙ c.tokens.texts k e;
    characters = λ k e. w.characters k ∙ c.tokens.characters k e;
    objects = λ k e. subst (MeanSame (said s) (said g.around) (s.objects k)) (sym (w.objects k)) (mean_moved (said s) (said f.around) (said g.around) w.sorts w.referents (s.objects k) (f.around.objects k) (c.tokens.objects k e));
  };
}

-- ---- behind statements

pub related_behind : RelatedBehind
related_behind p q m l f g ts ls v e c room locals =
    let b = rest_left f ts v in
    record {
      old = record (c.old) { locals = (behind f ts).locals };
      new = record (c.new) { locals = ls };
      old_same = record {
        around = says_same p c.old.around f (behind f ts) c.old_same.around b.says (b.rights e) b.iota;
        locals = refl;
        types = b.types ∙ c.old_same.types;
        source = c.old_same.source;
        repeats = c.old_same.repeats;
        tag = b.tag ∙ c.old_same.tag;
        results = b.results ∙ c.old_same.results;
      };
      new_same = record { around = c.new_same.around; locals = refl; types = c.new_same.types; source = c.new_same.source; repeats = c.new_same.repeats; tag = c.new_same.tag; results = c.new_same.results };
      along = record {
        rights = c.along.rights;
        iota = c.along.iota;
        needed = c.along.needed;
        limits = c.along.limits;
        texts = c.along.texts;
        characters = c.along.characters;
        objects = c.along.objects;
        apart = c.along.apart;
        room = room;
        locals = locals;
        types = c.along.types;
        source = c.along.source;
        repeats = c.along.repeats;
        tag = c.along.tag;
        results = c.along.results;
      };
    }

pub shared_along : (p q : ℕ → Bool) (m : Moves) (l : ℕ → Bool) (f g : Frame) → AlongAt p q m l (unsourced f) (unsourced g) → SharedAlong m l f g
shared_along p q m l f g c = record {
  rights = c.new_same.around.rights ∙ c.along.rights ∙ sym c.old_same.around.rights;
  limits = c.new_same.around.limits ∙ c.along.limits ∙ sym c.old_same.around.limits;
  apart = c.along.apart;
  room = λ n e. ap (λ ls. has_room ls (m.local n)) c.new_same.locals ∙ c.along.room n e ∙ ap (λ ls. has_room ls n) (sym c.old_same.locals);
  locals = λ n e. ap (λ ls. local_stands ls (m.local n)) c.new_same.locals ∙ c.along.locals n e ∙ ap (λ ls. local_stands ls n) (sym c.old_same.locals);
}
