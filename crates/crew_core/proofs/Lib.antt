mod Gates
mod Growers
mod Comes
mod Homes
mod Left
mod Served
mod Worked
mod WorkedCrews
