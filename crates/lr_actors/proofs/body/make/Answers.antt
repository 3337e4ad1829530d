use Rattle.std.proofs.Common.{◌≡◌, length, vec_len, ap, arith}
use Rattle.lr_actors.specs.declared.place.Context.{Context as Kept}
use Rattle.lr_actors.specs.declared.body.Setting.{Setting}
use Rattle.lr_actors.specs.Body.{context_of, hosts_of}
use Rattle.lr_actors.specs.Book.{IsNewBook}
use Rattle.lr_actors.proofs.Whole.{new_between, new_crash, book_as, context_len}
use Rattle.lr_actors.proofs.body.make.Goals as goal

pub settle-stage-requires : goal.settle-stage-requires
settle-stage-requires c =
    let s : Setting = record { alloc = c.args.alloc; number = c.args.number; jobs = c.args.jobs; crash = c.args.crash; context = c.args.context } in
    let devices : c.in-Ok.devices ≡ length (context_of s).devices = omega (arith, c.in-Ok.ensures, c.len.ensures, context_len s, ap (λ (k : Kept). vec_len k.devices) c.deref.ensures) in
    let new : IsNewBook c.len-2.result (length (context_of s).devices) (hosts_of s) (context_of s).nodes c.in_ok-book.book =
    book_as c.len-2.result c.in-Ok.devices _ _ _ _ _ c.in_ok-book.book devices (ap (λ (k : Kept). k.hosts) c.deref-2.ensures) (ap (λ (k : Kept). k.nodes) c.deref-3.ensures) c.in_ok-book.ensures in
    record {
      setting = record { context = c.requires.context; hosted = c.requires.hosted; jobs = c.requires.jobs; devices = omega (arith, devices, c.in-Ok.ensures) };
      between = new_between s c.in_ok-book.book c.len-2.result c.len-2.ensures new;
      crash = new_crash c.args.crash c.in_ok-book.book.made new.made;
    }
