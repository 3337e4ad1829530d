use Rattle.lr_actors.specs.Jobs.{Job}
use Rattle.lr_actors.specs.Body.{context_of, hosts_of, IsNextCall}
use Rattle.lr_actors.proofs.Going.{has_same, next_same}
use Rattle.lr_actors.proofs.Taking.{memory_goes, goes_as, works_go, sweep_room}
use Rattle.lr_actors.proofs.body.sweep_on.Goals as goal

pub returns : goal.returns
returns c =
    let s = c.args.setting.now in
    let b = c.make_room.new.book in
    let same = c.make_room.ensures.same in
    let next = next_same s c.args.book.now b (λ (j : Job). IsNextCall (context_of s) (hosts_of s) j c.args.job c.args.call _) same c.requires.next in
    rw c.hold.ensures (goes_as s c.args.book.now b b c.args.job _ same
    (works_go s b c.args.job c.args.call _ c.requires.setting (has_same s c.args.book.now b same c.requires.has) (rw same.made c.requires.crash) next c.requires.some
    (sweep_room (context_of s) (hosts_of s) next.0 c.args.job c.args.call b next.2 c.if-not-make_room.ensures.room)))

pub returns-then-not-make_room : goal.returns-then-not-make_room
returns-then-not-make_room c = memory_goes c.args.setting.now c.args.book.now c.make_room.new.book c.end.new.book c.args.job c.end.result c.args.call c.requires.next c.make_room.ensures.same c.end.ensures
