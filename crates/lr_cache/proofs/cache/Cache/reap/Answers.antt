use Rattle.std.proofs.Common.{refl}
use Rattle.lr_cache.specs.declared.call.CacheCall.TheVariants.{Reap}
use Rattle.lr_cache.specs.declared.call.CacheReply.TheVariants.{Reaped}
use Rattle.lr_cache.proofs.cache.Cache.reap.Goals as goal

pub returns-clause-kept : goal.returns-clause-kept
returns-clause-kept c = record {
  fixed = rw (← c.self.view_is) refl;
  logged = rw (← c.self.view_is) (record { caller = c.args.caller; call = Reap; reply = Reaped }, c.push_reserved.ensures.items, refl, record { logged = refl; noted = refl; told = refl }, λ u. u);
  unlogged = tt;
}
