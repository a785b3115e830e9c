mod Late
mod Wrong
