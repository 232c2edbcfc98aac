use Rattle.std.proofs.Common.{◌≤◌, length, ap, ap₂, arith}
use Rattle.std.proofs.lemmas.Grind.{common_steps}
use Rattle.nr_rev.specs.Socket.{output_room, room_of}
use Rattle.nr_laws.proofs.TransferStepLemmas.{output_room_most}
use Rattle.nr_plain.specs.declared.socket.SocketState.{SocketState}
use Rattle.nr_plain.proofs.BufferLemmas.{written_fits}
use Rattle.nr_plain.proofs.world.PlainWorld.syswrite.Goals as goal

pub returns : goal.returns
returns c =
    let socket = c.in_ok-row.row.now.socket in
    let n = length c.writable-bytes.result.now in
    let viewed = ap₂ output_room (ap (λ (s : SocketState). s.shut) c.state-shut.ensures) c.buffer.ensures.viewed in
    let most = output_room_most socket.shut socket.buffers.write in
    let room : n ≤ room_of socket.buffers.write = omega (arith, c.writable-bytes.ensures.len, viewed, most) in
    let fits = written_fits c.args.self.now c.args.socket socket n c.requires c.in_ok-row.ensures room in
    record { answer = grind (arith, common_steps); can = grind (arith, common_steps, fits); light = grind (arith, common_steps); few = grind (arith, common_steps) }
