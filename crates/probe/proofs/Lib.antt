-- What the tests of the calls say.
mod Laws
