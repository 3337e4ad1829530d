use Rattle.lr_script.proofs.step.kind_line.Goals as goal

pub returns-in-Script-clause-read : goal.returns-in-Script-clause-read
returns-in-Script-clause-read c = rw c.in-Script.is c.script_line.ensures.read

pub returns-in-Script-clause-only : goal.returns-in-Script-clause-only
returns-in-Script-clause-only c = rw c.in-Script.is c.script_line.ensures.only

pub returns-in-Nodes-clause-read : goal.returns-in-Nodes-clause-read
returns-in-Nodes-clause-read c = rw c.in-Nodes.is c.nodes_line.ensures.read

pub returns-in-Nodes-clause-only : goal.returns-in-Nodes-clause-only
returns-in-Nodes-clause-only c = rw c.in-Nodes.is c.nodes_line.ensures.only

pub returns-in-Host-clause-read : goal.returns-in-Host-clause-read
returns-in-Host-clause-read c = rw c.in-Host.is c.host_line.ensures.read

pub returns-in-Host-clause-only : goal.returns-in-Host-clause-only
returns-in-Host-clause-only c = rw c.in-Host.is c.host_line.ensures.only

pub returns-in-Root-clause-read : goal.returns-in-Root-clause-read
returns-in-Root-clause-read c = rw c.in-Root.is c.root_line.ensures.read

pub returns-in-Root-clause-only : goal.returns-in-Root-clause-only
returns-in-Root-clause-only c = rw c.in-Root.is c.root_line.ensures.only

pub returns-in-Image-clause-read : goal.returns-in-Image-clause-read
returns-in-Image-clause-read c = rw c.in-Image.is c.image_line.ensures.read

pub returns-in-Image-clause-only : goal.returns-in-Image-clause-only
returns-in-Image-clause-only c = rw c.in-Image.is c.image_line.ensures.only

pub returns-in-Device-clause-read : goal.returns-in-Device-clause-read
returns-in-Device-clause-read c = rw c.in-Device.is c.device_line.ensures.read

pub returns-in-Device-clause-only : goal.returns-in-Device-clause-only
returns-in-Device-clause-only c = rw c.in-Device.is c.device_line.ensures.only

pub returns-in-Actor-clause-read : goal.returns-in-Actor-clause-read
returns-in-Actor-clause-read c = rw c.in-Actor.is c.actor_line.ensures.read

pub returns-in-Actor-clause-only : goal.returns-in-Actor-clause-only
returns-in-Actor-clause-only c = rw c.in-Actor.is c.actor_line.ensures.only

pub returns-in-Read-clause-read : goal.returns-in-Read-clause-read
returns-in-Read-clause-read c = rw c.in-Read.is c.read_line.ensures.read

pub returns-in-Read-clause-only : goal.returns-in-Read-clause-only
returns-in-Read-clause-only c = rw c.in-Read.is c.read_line.ensures.only

pub returns-in-Zero-clause-read : goal.returns-in-Zero-clause-read
returns-in-Zero-clause-read c = rw c.in-Zero.is c.zero_line.ensures.read

pub returns-in-Zero-clause-only : goal.returns-in-Zero-clause-only
returns-in-Zero-clause-only c = rw c.in-Zero.is c.zero_line.ensures.only

pub returns-in-Write-clause-read : goal.returns-in-Write-clause-read
returns-in-Write-clause-read c = rw c.in-Write.is c.write_line.ensures.read

pub returns-in-Write-clause-only : goal.returns-in-Write-clause-only
returns-in-Write-clause-only c = rw c.in-Write.is c.write_line.ensures.only

pub returns-in-Create-clause-read : goal.returns-in-Create-clause-read
returns-in-Create-clause-read c = rw c.in-Create.is c.create_line.ensures.read

pub returns-in-Create-clause-only : goal.returns-in-Create-clause-only
returns-in-Create-clause-only c = rw c.in-Create.is c.create_line.ensures.only

pub returns-in-Migrate-clause-read : goal.returns-in-Migrate-clause-read
returns-in-Migrate-clause-read c = rw c.in-Migrate.is c.migrate_line.ensures.read

pub returns-in-Migrate-clause-only : goal.returns-in-Migrate-clause-only
returns-in-Migrate-clause-only c = rw c.in-Migrate.is c.migrate_line.ensures.only

pub returns-in-Withdraw-clause-read : goal.returns-in-Withdraw-clause-read
returns-in-Withdraw-clause-read c = rw c.in-Withdraw.is c.withdraw_line.ensures.read

pub returns-in-Withdraw-clause-only : goal.returns-in-Withdraw-clause-only
returns-in-Withdraw-clause-only c = rw c.in-Withdraw.is c.withdraw_line.ensures.only

pub returns-in-Rotate-clause-read : goal.returns-in-Rotate-clause-read
returns-in-Rotate-clause-read c = rw c.in-Rotate.is c.rotate_line.ensures.read

pub returns-in-Rotate-clause-only : goal.returns-in-Rotate-clause-only
returns-in-Rotate-clause-only c = rw c.in-Rotate.is c.rotate_line.ensures.only

pub returns-in-Expire-clause-read : goal.returns-in-Expire-clause-read
returns-in-Expire-clause-read c = rw c.in-Expire.is c.expire_line.ensures.read

pub returns-in-Expire-clause-only : goal.returns-in-Expire-clause-only
returns-in-Expire-clause-only c = rw c.in-Expire.is c.expire_line.ensures.only

pub returns-in-Delete-clause-read : goal.returns-in-Delete-clause-read
returns-in-Delete-clause-read c = rw c.in-Delete.is c.delete_line.ensures.read

pub returns-in-Delete-clause-only : goal.returns-in-Delete-clause-only
returns-in-Delete-clause-only c = rw c.in-Delete.is c.delete_line.ensures.only

pub returns-in-Sweep-clause-read : goal.returns-in-Sweep-clause-read
returns-in-Sweep-clause-read c = rw c.in-Sweep.is c.sweep_line.ensures.read

pub returns-in-Sweep-clause-only : goal.returns-in-Sweep-clause-only
returns-in-Sweep-clause-only c = rw c.in-Sweep.is c.sweep_line.ensures.only

pub returns-in-Settle-clause-read : goal.returns-in-Settle-clause-read
returns-in-Settle-clause-read c = rw c.in-Settle.is c.settle_line.ensures.read

pub returns-in-Settle-clause-only : goal.returns-in-Settle-clause-only
returns-in-Settle-clause-only c = rw c.in-Settle.is c.settle_line.ensures.only

pub returns-in-Evict-clause-read : goal.returns-in-Evict-clause-read
returns-in-Evict-clause-read c = rw c.in-Evict.is c.evict_line.ensures.read

pub returns-in-Evict-clause-only : goal.returns-in-Evict-clause-only
returns-in-Evict-clause-only c = rw c.in-Evict.is c.evict_line.ensures.only

pub returns-in-Drop-clause-read : goal.returns-in-Drop-clause-read
returns-in-Drop-clause-read c = rw c.in-Drop.is c.drop_line.ensures.read

pub returns-in-Drop-clause-only : goal.returns-in-Drop-clause-only
returns-in-Drop-clause-only c = rw c.in-Drop.is c.drop_line.ensures.only

pub returns-in-Flip-clause-read : goal.returns-in-Flip-clause-read
returns-in-Flip-clause-read c = rw c.in-Flip.is c.flip_line.ensures.read

pub returns-in-Flip-clause-only : goal.returns-in-Flip-clause-only
returns-in-Flip-clause-only c = rw c.in-Flip.is c.flip_line.ensures.only

pub returns-in-Forge-clause-read : goal.returns-in-Forge-clause-read
returns-in-Forge-clause-read c = rw c.in-Forge.is c.forge_line.ensures.read

pub returns-in-Forge-clause-only : goal.returns-in-Forge-clause-only
returns-in-Forge-clause-only c = rw c.in-Forge.is c.forge_line.ensures.only

pub returns-in-Lose-clause-read : goal.returns-in-Lose-clause-read
returns-in-Lose-clause-read c = rw c.in-Lose.is c.lose_line.ensures.read

pub returns-in-Lose-clause-only : goal.returns-in-Lose-clause-only
returns-in-Lose-clause-only c = rw c.in-Lose.is c.lose_line.ensures.only

pub returns-in-After-clause-read : goal.returns-in-After-clause-read
returns-in-After-clause-read c = rw c.in-After.is c.after_line.ensures.read

pub returns-in-After-clause-only : goal.returns-in-After-clause-only
returns-in-After-clause-only c = rw c.in-After.is c.after_line.ensures.only

pub returns-in-Close-clause-read : goal.returns-in-Close-clause-read
returns-in-Close-clause-read c = rw c.in-Close.is c.close_line.ensures.read

pub returns-in-Close-clause-only : goal.returns-in-Close-clause-only
returns-in-Close-clause-only c = rw c.in-Close.is c.close_line.ensures.only

pub returns-in-Crash-clause-read : goal.returns-in-Crash-clause-read
returns-in-Crash-clause-read c = rw c.in-Crash.is c.crash_line.ensures.read

pub returns-in-Crash-clause-only : goal.returns-in-Crash-clause-only
returns-in-Crash-clause-only c = rw c.in-Crash.is c.crash_line.ensures.only

pub returns-in-Schedule-clause-read : goal.returns-in-Schedule-clause-read
returns-in-Schedule-clause-read c = rw c.in-Schedule.is c.schedule_line.ensures.read

pub returns-in-Schedule-clause-only : goal.returns-in-Schedule-clause-only
returns-in-Schedule-clause-only c = rw c.in-Schedule.is c.schedule_line.ensures.only
