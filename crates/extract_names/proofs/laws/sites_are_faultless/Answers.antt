use Rattle.extract_names.proofs.AllRules.{NoneFails, each_rule, no_faults}
use Rattle.extract_names.proofs.laws.sites_are_faultless.Goals as goal

pub returns : goal.returns
returns c a new outer gaps site e =
    let h : NoneFails a outer = each_rule a outer e in
    record {
      kept = c.tokens_that_stay_mean_the_same.ensures a new outer gaps site h.once;
      said = c.new_names_mean_what_they_have_to.ensures a new outer gaps site h.once;
      faultless =
          no_faults new outer
          (record {
            once = c.names_are_declared_once.ensures a new outer gaps site h.once;
            some_new = c.assignments_declare_new_names.ensures a new outer gaps site h.once h.some_new;
            declared = c.names_stay_declared.ensures a new outer gaps site h.once h.declared;
            known = c.names_stay_in_the_profile.ensures a new outer gaps site h.once h.known;
            members = c.members_of_imports_stay_in_the_profile.ensures a new outer gaps site h.once h.members;
            called = c.members_of_imports_stay_called.ensures a new outer gaps site h.once h.called;
            initial = c.initialisers_stay_outside.ensures a new outer gaps site h.once h.initial;
            used = c.variables_are_used.ensures a new outer gaps site h.once;
            placed = c.branches_stand_where_they_may.ensures a new outer gaps site h.placed;
            groups = c.members_stand_once.ensures a new outer gaps site h.groups;
            defaults = c.switches_have_one_default.ensures a new outer gaps site h.defaults;
            lists = c.repeated_lists_hide_no_names.ensures a new outer gaps site h.lists;
            needs = c.declarations_need_others.ensures a new outer gaps site h.once h.needs;
          });
    }
