use Rattle.std.proofs.Common.{◌≡◌, Some, false, refl}
use Rattle.std.specs.Arc.{arc_value}
use Rattle.lr_manifest.specs.Chunk.{is_named}
use Rattle.lr_cache.specs.declared.call.CacheCall.TheVariants.{Fill}
use Rattle.lr_cache.specs.declared.call.CacheReply.TheVariants.{Filled}
use Rattle.lr_cache.specs.Machine.{run, claim_of}
use Rattle.lr_object.proofs.Found.{found_there}
use Rattle.lr_cache.proofs.cache.Cache.fill.Goals as goal

pub refuse-requires-then-not-has_name : goal.refuse-requires-then-not-has_name
refuse-requires-then-not-has_name c =
    let found : claim_of c.args.caller (run c.self.inside.capacity c.self.inside.log.items) ≡ Some c.index.result.now =
    rw (← c.self.invariant.3) (found_there (rw c.as_slice.ensures.value at c.in-Some.ensures) c.index.ensures) in
    let refused : is_named c.index.result.now.name (arc_value c.args.chunk) ≡ false = cc (c.deref.ensures, c.has_name.ensures, c.if-not-has_name.true) in
    (λ claim e. let there = rw (← c.self.view_is) at e in cc, tt)

pub returns-clause-answered : goal.returns-clause-answered
returns-clause-answered c =
    let found : claim_of c.args.caller (run c.self.inside.capacity c.self.inside.log.items) ≡ Some c.index.result.now =
    rw (← c.self.invariant.3) (found_there (rw c.as_slice.ensures.value at c.in-Some.ensures) c.index.ensures) in
    rw (← c.self.view_is) (c.index.result.now, found, cc (c.deref.ensures, c.has_name.ensures, c.if-not-has_name.false))

pub returns-clause-kept : goal.returns-clause-kept
returns-clause-kept c = record {
  fixed = rw (← c.self.view_is) refl;
  logged = rw (← c.self.view_is) (record { caller = c.args.caller; call = Fill c.args.chunk; reply = Filled }, c.push_reserved.ensures.items, refl, record { logged = refl; noted = refl; told = refl }, λ u. u);
  unlogged = tt;
}
