use Rattle.std.proofs.Common.{◌≡◌, ◌≢◌, ◌^◌, Some, None, ap, sym, subst, ◌∙◌}
use Rattle.std.proofs.lemmas.Bool.{false≢true}
use Rattle.std.specs.Ordering.{eq_by_cmp}
use Rattle.std.specs.FinMap as map
use Rattle.lr_origin.specs.Kind.{kind_cmp}
use Rattle.lr_origin.specs.Text.{IsKind}
use Rattle.lr_roots.specs.View.{View, Has, Lacks}
use Rattle.lr_roots.specs.Keys.{plain}
use Rattle.lr_roots.specs.Names.{AreFewer, IsNamed}
use Rattle.lr_roots.specs.Catalog.{Seen, IsWhole, without, aside_of}
use Rattle.lr_roots.proofs.Trees.{same_key}
use Rattle.lr_roots.proofs.Aside.{itself, few_prepared, whole_inserted, whole_removed, has_prepared, has_inserted, has_kept, prepared_first, prepared_again, prepared_other}
use Rattle.lr_roots.proofs.catalog.Catalog.prepare.Goals as goal

pub invariant_of-self-in_default : goal.invariant_of-self-in_default
invariant_of-self-in_default c =
    let put = c.in_ok-insert.ensures.ok in
    let none : c.self.inside.aside ≡ None = sym c.replace.ensures.value ∙ c.in_default.is in
    let v : c.self.inside.keys ≡ c.args.self.now.view = ap (λ a. without a c.self.inside.keys) (sym none) ∙ ap (λ (s : Seen). s.view) c.self.view_is in
    let lacks : Lacks c.self.inside.keys c.args.key = subst (λ (w : View). Lacks w c.args.key) (sym v) c.requires.absent in
    let is : IsKind c.args.key = subst IsKind c.kind-kind.ensures.same c.kind-kind.ensures.kind in (
      subst IsWhole (sym put) (whole_inserted c.self.inside.keys c.args.key (plain c.args.body) c.self.invariant.0 is c.requires.fits),
      has_prepared c.insert.new.self c.args.key c.replace.new.dest c.replace.ensures.after (subst (λ (v : View). Has v c.args.key) (sym put) (has_inserted c.self.inside.keys c.args.key (plain c.args.body))),
      subst (λ (w : View). AreFewer (IsNamed w) (2 ^ 32)) (sym put) (few_prepared (map.insert c.self.inside.keys c.args.key (plain c.args.body)) c.args.self.now.view c.args.key (plain c.args.body) (ap (λ (s : Seen). s.view) (prepared_first c.self.inside.keys c.args.key (plain c.args.body) lacks) ∙ v) c.requires.few),
    )

pub invariant_of-self-then-eq : goal.invariant_of-self-then-eq
invariant_of-self-then-eq c =
    let put = c.in_ok-insert.ensures.ok in
    let same : c.in-Some.before ≡ c.args.key = same_key c.in-Some.before c.args.key (sym c.eq.ensures ∙ c.if-eq.true) in
    let some : c.self.inside.aside ≡ Some c.args.key = sym c.replace.ensures.value ∙ c.in-Some.is ∙ ap Some same in
    let v : map.remove c.self.inside.keys c.args.key ≡ c.args.self.now.view = ap (λ a. without a c.self.inside.keys) (sym some) ∙ ap (λ (s : Seen). s.view) c.self.view_is in
    let is : IsKind c.args.key = subst IsKind c.kind-kind.ensures.same c.kind-kind.ensures.kind in (
      subst IsWhole (sym put) (whole_inserted c.self.inside.keys c.args.key (plain c.args.body) c.self.invariant.0 is c.requires.fits),
      has_prepared c.insert.new.self c.args.key c.replace.new.dest c.replace.ensures.after (subst (λ (v : View). Has v c.args.key) (sym put) (has_inserted c.self.inside.keys c.args.key (plain c.args.body))),
      subst (λ (w : View). AreFewer (IsNamed w) (2 ^ 32)) (sym put) (few_prepared (map.insert c.self.inside.keys c.args.key (plain c.args.body)) c.args.self.now.view c.args.key (plain c.args.body) (ap (λ (s : Seen). s.view) (prepared_again c.self.inside.keys c.args.key (plain c.args.body)) ∙ v) c.requires.few),
    )

pub invariant_of-self-2 : goal.invariant_of-self-2
invariant_of-self-2 c =
    let put = c.in_ok-insert.ensures.ok in
    let before = c.in-Some.before in
    let gone : c.remove.new.self ≡ map.remove (map.insert c.self.inside.keys c.args.key (plain c.args.body)) before = c.remove.ensures ∙ ap (λ (w : View). map.remove w before) put in
    let some : c.self.inside.aside ≡ Some before = sym c.replace.ensures.value ∙ c.in-Some.is in
    let v : map.remove c.self.inside.keys before ≡ c.args.self.now.view = ap (λ a. without a c.self.inside.keys) (sym some) ∙ ap (λ (s : Seen). s.view) c.self.view_is in
    let lacks : Lacks (map.remove c.self.inside.keys before) c.args.key = subst (λ (w : View). Lacks w c.args.key) (sym v) c.requires.absent in
    let is : IsKind c.args.key = subst IsKind c.kind-kind.ensures.same c.kind-kind.ensures.kind in
    let other : before ≢ c.args.key = λ e. false≢true (sym c.if-eq.false ∙ c.eq.ensures ∙ ap (eq_by_cmp kind_cmp before) (sym e) ∙ itself before) in
    let whole : IsWhole c.insert.new.self = subst IsWhole (sym put) (whole_inserted c.self.inside.keys c.args.key (plain c.args.body) c.self.invariant.0 is c.requires.fits) in
    let here : Has c.insert.new.self c.args.key = subst (λ (v : View). Has v c.args.key) (sym put) (has_inserted c.self.inside.keys c.args.key (plain c.args.body)) in (
      subst IsWhole (sym c.remove.ensures) (whole_removed c.insert.new.self before whole),
      has_prepared c.remove.new.self c.args.key c.replace.new.dest c.replace.ensures.after (subst (λ (v : View). Has v c.args.key) (sym c.remove.ensures) (has_kept c.insert.new.self before c.args.key other here)),
      subst (λ (w : View). AreFewer (IsNamed w) (2 ^ 32)) (sym gone) (few_prepared (map.remove (map.insert c.self.inside.keys c.args.key (plain c.args.body)) before) c.args.self.now.view c.args.key (plain c.args.body) (ap (λ (s : Seen). s.view) (prepared_other c.self.inside.keys c.args.key (plain c.args.body) before other lacks) ∙ v) c.requires.few),
    )

pub returns-in_default-clause-ok : goal.returns-in_default-clause-ok
returns-in_default-clause-ok c =
    let put = c.in_ok-insert.ensures.ok in
    let after = c.replace.ensures.after in
    let none : c.self.inside.aside ≡ None = sym c.replace.ensures.value ∙ c.in_default.is in
    let v : c.self.inside.keys ≡ c.args.self.now.view = ap (λ a. without a c.self.inside.keys) (sym none) ∙ ap (λ (s : Seen). s.view) c.self.view_is in
    let lacks : Lacks c.self.inside.keys c.args.key = subst (λ (w : View). Lacks w c.args.key) (sym v) c.requires.absent in
    (λ i. record { view = without (after i) (put i); aside = aside_of (after i) (put i) })
    ∙ prepared_first c.self.inside.keys c.args.key (plain c.args.body) lacks
    ∙ (λ i. record { view = v i; aside = Some (c.args.key, plain c.args.body) })

pub returns-then-eq-clause-ok : goal.returns-then-eq-clause-ok
returns-then-eq-clause-ok c =
    let put = c.in_ok-insert.ensures.ok in
    let after = c.replace.ensures.after in
    let same : c.in-Some.before ≡ c.args.key = same_key c.in-Some.before c.args.key (sym c.eq.ensures ∙ c.if-eq.true) in
    let some : c.self.inside.aside ≡ Some c.args.key = sym c.replace.ensures.value ∙ c.in-Some.is ∙ ap Some same in
    let v : map.remove c.self.inside.keys c.args.key ≡ c.args.self.now.view = ap (λ a. without a c.self.inside.keys) (sym some) ∙ ap (λ (s : Seen). s.view) c.self.view_is in
    (λ i. record { view = without (after i) (put i); aside = aside_of (after i) (put i) })
    ∙ prepared_again c.self.inside.keys c.args.key (plain c.args.body)
    ∙ (λ i. record { view = v i; aside = Some (c.args.key, plain c.args.body) })

pub returns-clause-ok : goal.returns-clause-ok
returns-clause-ok c =
    let after = c.replace.ensures.after in
    let before = c.in-Some.before in
    let gone : c.remove.new.self ≡ map.remove (map.insert c.self.inside.keys c.args.key (plain c.args.body)) before = c.remove.ensures ∙ ap (λ (w : View). map.remove w before) c.in_ok-insert.ensures.ok in
    let other : before ≢ c.args.key = λ e. false≢true (sym c.if-eq.false ∙ c.eq.ensures ∙ ap (eq_by_cmp kind_cmp before) (sym e) ∙ itself before) in
    let some : c.self.inside.aside ≡ Some before = sym c.replace.ensures.value ∙ c.in-Some.is in
    let v : map.remove c.self.inside.keys before ≡ c.args.self.now.view = ap (λ a. without a c.self.inside.keys) (sym some) ∙ ap (λ (s : Seen). s.view) c.self.view_is in
    let lacks : Lacks (map.remove c.self.inside.keys before) c.args.key = subst (λ (w : View). Lacks w c.args.key) (sym v) c.requires.absent in
    (λ i. record { view = without (after i) (gone i); aside = aside_of (after i) (gone i) })
    ∙ prepared_other c.self.inside.keys c.args.key (plain c.args.body) before other lacks
    ∙ (λ i. record { view = v i; aside = Some (c.args.key, plain c.args.body) })
