use Rattle.cascade.proofs.two_rooms.TwoRooms.new.Goals as goal

pub returns : goal.returns
returns c = record {
  first = c.in_ok-first.ensures;
  second = c.in_ok-second.ensures;
  one = c.in_ok-one.ensures;
  two = c.in_ok-two.ensures;
  three = c.in_ok-three.ensures;
}
