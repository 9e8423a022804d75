mod Readings
