use denote.Param.Send.{sendable}
use Rattle.lr_roots.proofs.catalog.Catalog.TheSendSync.{the_send as view}
use Rattle.lr_depot.proofs.depot.Body.TheSendSync.{the_field_send as body}
use Rattle.lr_depot.proofs.depot.StartError.TheSendSync.{the_send as error}
use Rattle.lr_depot.proofs.log.DepotLog.TheSendSync.{the_send as left}
use Rattle.lr_depotshare.proofs.depots_cross_threads.Goals as goal

pub returns-clause-depot : goal.returns-clause-depot
returns-clause-depot g c = search (body, sendable) depth 20

pub returns-clause-error : goal.returns-clause-error
returns-clause-error g c = search (error, sendable)

pub returns-clause-left : goal.returns-clause-left
returns-clause-left g c = left

pub returns-clause-view : goal.returns-clause-view
returns-clause-view g c = view
