use Rattle.std.proofs.Common.{ap, ◌∙◌}
use Rattle.lr_origin.specs.Objects.{pointed}
use Rattle.lr_roots.specs.Catalog.{Seen}
use Rattle.lr_roots.proofs.Ordered.{listed, nearer_start, nearer_step, nearer_end}
use Rattle.lr_roots.proofs.catalog.Catalog.next_image.Goals as goal

pub loop-key-init : goal.loop-key-init
loop-key-init c = (
  nearer_start c.args.self.now.view (pointed c.args.after) _ (λ q has. listed c.self.inside.aside c.self.inside.keys c.args.self.now.view _ (ap (λ (s : Seen). s.view) c.self.view_is) (c.into_iter-key-iterator.ensures.into_iter_gives ∙ c.iter-key-items.ensures.list) q has),
  tt,
)

pub loop-key-preserved : goal.loop-key-preserved
loop-key-preserved c =
    nearer_step c.args.self.now.view (pointed c.args.after) c.loop-key.best _ _ _ c.in-Some.key.now c.in-Some.ensures.steps c.nearest-best.ensures c.loop-key.invariant

pub returns : goal.returns
returns c = nearer_end c.args.self.now.view (pointed c.args.after) c.loop-key.best _ c.in-None.ensures.steps.0 c.loop-key.invariant.0 c.loop-key.invariant.1
