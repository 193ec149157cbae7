use Rattle.std.proofs.Common.{◌≡◌, ◌≤◌, ◌<◌, length, ap, sym, subst, ◌∙◌, arith}
use Rattle.sk_points.specs.Parts.{room_parts, room_newest, pushed}
use Rattle.sk_points.proofs.Adding.{room_there, put_in_place}
use Rattle.sk_points.proofs.Settled.{append_stands}
use Rattle.sk_points.proofs.points.Points.append.Goals as goal

pub returns : goal.returns
returns c =
    let h = c.requires.1 in
    let two : 2 ≤ c.requires.0.size = h.sound.size.0 in
    let parts : 2 ≤ c.requires.0.partitions = h.sound.partitions.0 in
    let is : c.args.self.now.size ≡ c.requires.0.size = h.size in
    let count : length c.args.self.now.parts.items ≡ c.requires.0.partitions = h.partitions in
    let there = room_there c.args.self.now.parts.items c.args.self.now.newest c.args.self.now.size h.shape (omega arith) (omega arith) in
    let e = c.make_room.ensures in
    let put = put_in_place c.make_room.new.self.parts.items c.make_room.new.self.newest c.args.point c.index_mut.result.now c.push.new.self
    (subst (λ n. n < length c.make_room.new.self.parts.items) (sym e.newest) (subst (λ xs. room_newest c.args.self.now.parts.items c.args.self.now.newest < length xs) (sym e.parts) there)) c.index_mut.ensures.value c.push.ensures in
    append_stands c.args.self.now _ c.args.point e.mem e.store e.size e.newest
    (put ∙ ap (λ xs. pushed xs c.make_room.new.self.newest c.args.point) e.parts ∙ ap (λ n. pushed (room_parts c.args.self.now.parts.items c.args.self.now.newest) n c.args.point) e.newest)
